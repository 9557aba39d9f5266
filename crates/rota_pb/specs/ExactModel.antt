-- The rows of a week's model, and the assignment that extends a roster.
use Rattle.std.specs.Prelude.{◌≡◌, ◌↔◌, ◌++◌, ℕ, Bool, true, List, All}
use Rattle.rota_pb.specs.Imports.{Constraint, KeepsHardRules, Model, Roster, roster_of, Satisfies, unit_number, Problem}
use Rattle.rota_judge.specs.FirstUnmet.{NamesFirstBroken, first_unmet}
use Rattle.rota_judge.specs.Extensions.{extension_of}
use Rattle.rota_items.specs.WeekModel.{hard_constraints, hard_rows, model_of}
use Rattle.rota_pb.specs.Meaning.{IsExtension}

-- The hard constraints come first, and they are exactly these. If the unit variable is true, the first that an assignment does not
-- satisfy is a row of the first rule that its roster breaks.
pub record BeginsWithHardRows (problem : Problem) (model : Model) : Type 0 where
  pub soft : List Constraint
  pub hard_first : model.constraints ≡ hard_constraints problem ++ soft
  pub satisfied : (assignment : ℕ → Bool) →
      All (Satisfies assignment) (hard_constraints problem) ↔
      ((assignment (unit_number problem) ≡ true) × KeepsHardRules problem (roster_of problem assignment))
  pub first_broken : (assignment : ℕ → Bool) → assignment (unit_number problem) ≡ true →
      NamesFirstBroken problem (roster_of problem assignment) (first_unmet assignment (hard_rows problem))

-- The model is the week's, its first rows are the rows of the hard rules, and a roster that keeps these rules extends to its extension.
pub record IsExactModel (problem : Problem) (model : Model) : Type 0 where
  pub is_model : model ≡ model_of problem
  pub hard_rows : BeginsWithHardRows problem model
  pub extends : (roster : Roster) → KeepsHardRules problem roster → IsExtension problem model roster (extension_of problem roster)
