pub mod EventText
pub mod ModelText
pub mod OneModel
pub mod OpbTaker
pub mod SinkTaker
