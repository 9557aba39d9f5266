pub mod OpenedFiles
pub mod OpeningLemmas
