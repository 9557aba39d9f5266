pub mod CommandSteps
pub mod FilesShown
pub mod GivenWords
pub mod JobEndings
pub mod Refusals
pub mod Shows
