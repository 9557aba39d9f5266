-- Names for the definitions of costs: of numbers and lists, weeks, rosters and rules.
pub use Rattle.std.specs.Prelude.{ℕ, zero, suc, nat_le, nat_lt, Bool, false, not, List, count_by, sum_by}
pub use Rattle.std.specs.List.{range_with_len}
pub use Rattle.rota_core.specs.SumsBelow.{sum_below, count_below}
pub use Rattle.rota_core.specs.Sizes.{DAYS}
pub use Rattle.rota_core.specs.Problem.{Problem}
pub use Rattle.rota_core.specs.Roster.{Roster, cell, InWeek}
pub use Rattle.rota_core.specs.HardRules.{works, is_on, is_off, nurses_at, KeepsHardRules}
pub use Rattle.rota_core.specs.Rules.{soft_rules}
pub use Rattle.rota_core.specs.declared.values.Cell.{Cell}
pub use Rattle.rota_core.specs.declared.values.Span.{Span}
pub use Rattle.rota_core.specs.declared.rule.Rule.{Rule}
