-- Names for the definitions of models: of numbers and lists, weeks, rosters and rules.
pub use Rattle.rota_rules.specs.Imports.{ℕ, nat_le, nat_lt, Bool, false, not, List, count_by, sum_by, range_with_len, sum_below}
pub use Rattle.rota_rules.specs.Imports.{count_below, DAYS, Problem, Roster, cell, InWeek, works, is_on, is_off, nurses_at, KeepsHardRules}
pub use Rattle.rota_rules.specs.Imports.{soft_rules, Cell, Span, Rule}
pub use Rattle.std.specs.Prelude.{min, ℤ, int_le, pos, negsuc, true}
pub use Rattle.std.specs.Prelude.{[], map, flat_map, length, Option, Some, None}
pub use Rattle.std.specs.List.{list_any}
pub use Rattle.rota_core.specs.HardRules.{KeepsCompetitionRules}
pub use Rattle.rota_core.specs.HardRules.{KeepsOneCell, KeepsMinimum}
pub use Rattle.rota_core.specs.Rules.{hard_rules}
pub use Rattle.rota_core.specs.declared.rule.Rule.TheVariants.{H1, H2, H3, H4, H5, Unit}
