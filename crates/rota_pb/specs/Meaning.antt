-- The meaning of a week's model: its satisfying assignments are the rosters that keep the hard rules, and cost at least their penalty.
use Rattle.std.specs.Prelude.{◌≡◌, ◌≤ℤ◌, ℕ, pos, Bool}
use Rattle.rota_items.specs.Imports.{Cell, InWeek, KeepsHardRules, Roster, Problem}
use Rattle.rota_items.specs.Linear.{Model, SatisfiesModel, objective_value}
use Rattle.rota_rules.specs.Penalty.{penalty}
use Rattle.rota_items.specs.Variables.{roster_of}

-- The assignment satisfies the model, its objective is the roster's penalty, and its roster has the same cells of the week.
pub record IsExtension (problem : Problem) (model : Model) (roster : Roster) (assignment : ℕ → Bool) : Type 0 where
  pub satisfies : SatisfiesModel assignment model
  pub objective : objective_value assignment model ≡ pos (penalty problem roster)
  pub same_roster : (cell : Cell) → InWeek problem cell → roster_of problem assignment cell ≡ roster cell

-- The meaning of a week's model: every roster that keeps the hard rules extends to a satisfying assignment at its penalty, and every
-- satisfying assignment decodes to such a roster, whose penalty is at most the assignment's objective.
pub record MeansRules (problem : Problem) (model : Model) : Type 0 where
  pub extends : (roster : Roster) → KeepsHardRules problem roster →
      (assignment : ℕ → Bool) × IsExtension problem model roster assignment
  pub decodes : (assignment : ℕ → Bool) → SatisfiesModel assignment model →
      KeepsHardRules problem (roster_of problem assignment) ×
      (pos (penalty problem (roster_of problem assignment)) ≤ℤ objective_value assignment model)
