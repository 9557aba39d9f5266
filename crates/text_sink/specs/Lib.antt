pub mod KnownFront
pub mod Pieces
pub mod Sink
pub mod TermText
