-- The rows of each hard rule mean the rule.
pub mod EachRule
pub mod Sound
pub mod Succession
