-- Properties shared by rosters with the same cells in a week.
use Rattle.std.specs.Prelude.{◌≡◌}
use Rattle.rota_rules.specs.Penalty.{penalty, rule_cost}
use Rattle.rota_rules.specs.Imports.{InWeek, Cell, KeepsHardRules, Roster, Rule, Problem}

-- each cell of the week is in both rosters or in neither
abbrev pub AreAlike : Problem → Roster → Roster → Type 0
AreAlike problem one other = (cell : Cell) → InWeek problem cell → one cell ≡ other cell

-- if the first roster keeps the hard rules, so does the second; and both cost the same
pub record CostAlike (problem : Problem) (one other : Roster) : Type 0 where
  pub keeps : KeepsHardRules problem one → KeepsHardRules problem other
  pub costs : (rule : Rule) → rule_cost problem one rule ≡ rule_cost problem other rule
  pub penalties : penalty problem one ≡ penalty problem other
