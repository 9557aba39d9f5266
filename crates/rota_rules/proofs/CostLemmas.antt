-- The lemmas of this crate that the proofs of the crates above use.
pub use Rattle.rota_rules.proofs.EachRule.{penalty-alike, request_cost-le, rule_cost-alike}
pub use Rattle.rota_rules.proofs.InstanceLimits.{instance-within_limits}
