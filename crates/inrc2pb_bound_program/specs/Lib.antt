pub mod BoundEnds
pub mod BoundJobs
pub mod BoundPrograms
pub mod CommandLine
pub mod FixTexts
pub mod PeriodContents
pub mod PeriodOpening
