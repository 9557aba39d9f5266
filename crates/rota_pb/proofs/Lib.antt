pub mod DecodedAnswer
pub mod ExtensionAnswer
pub mod Feeding
pub mod GivenFiles
pub mod Steps
pub mod SinkLoops
pub mod SolutionPieces
pub mod WholeFiles
