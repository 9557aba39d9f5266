-- Names for the definitions of meanings: of numbers and lists, weeks, rosters and rules.
pub use Rattle.rota_items.specs.Imports.{ℕ, Bool, false, List, [], map, Option, Some, None, Problem, Roster, is_on, KeepsHardRules}
pub use Rattle.rota_items.specs.Imports.{KeepsCompetitionRules, KeepsOneCell, KeepsMinimum, soft_rules, hard_rules, Cell, Rule, H1, H2, H3}
pub use Rattle.rota_items.specs.Imports.{H4, H5, Unit}
pub use Rattle.std.specs.Prelude.{zero, suc}
pub use Rattle.std.specs.Prelude.{slice_index_or, All, MatchOption}
pub use Rattle.rota_core.specs.HardRules.{KeepsSuccession, KeepsSkills, KeepsHeld}
