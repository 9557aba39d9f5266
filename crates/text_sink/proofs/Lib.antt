pub mod DigitCounts
pub mod Endings
pub mod LogicWords
pub mod Pieces
pub mod StdNumerals
pub mod TwoDigits
