mod DaySteps
mod DayTables
mod EndLemmas
mod FileLaws
mod NameSteps
pub mod ReadingLaws
mod RowSteps
mod SlotLaws
mod TableLemmas
mod TokenLemmas
