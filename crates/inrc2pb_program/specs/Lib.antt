pub mod CommandEnds
pub mod CommandLine
pub mod JobContents
pub mod JobOutcomes
pub mod Jobs
pub mod OpenInputs
pub mod Programs
