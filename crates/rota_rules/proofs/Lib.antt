mod AlikeRosters
pub mod CostLemmas
mod EachRule
mod EarlyCharges
mod InstanceLimits
pub mod LogicWords
mod SmallSums
