mod CellCounts
mod Common
mod DayLaw
mod DayPatterns
mod DayTerms
mod EachPattern
mod ItemCounting
pub mod ItemLemmas
mod ItemLists
mod ItemRows
pub mod LogicWords
mod LoopSteps
mod ObjectiveTaking
mod PatternItems
mod RisingCells
mod RowParts
mod RowTaking
mod RuleSizes
mod RunLaw
mod SlackBound
mod SoftRules
mod SoundTerms
mod Taking
