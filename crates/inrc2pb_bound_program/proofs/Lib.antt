pub mod BoundWords
pub mod FixLemmas
pub mod OpenedPeriod
pub mod PeriodEnds
pub mod PeriodOpens
pub mod PeriodShows
pub mod WeekPaths
