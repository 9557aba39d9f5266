-- Words of the laws on the model: the variables in its constraints, and the week without held cells.
use Rattle.std.specs.Prelude.{◌≡◌, ℕ, ◌==◌, Bool, true}
use Rattle.std.specs.List.{list_any}
use Rattle.rota_items.specs.Linear.{Term, Constraint, Model}
use Rattle.rota_judge.specs.Imports.{false, Problem}

-- whether the variable occurs in a term of the constraint
abbrev pub occurs_in : ℕ → Constraint → Bool
occurs_in v constraint = list_any (λ (term : Term ℕ). term.1 == v) constraint.terms

-- it occurs in some constraint of the model
abbrev pub OccursInSome : Model → ℕ → Type 0
OccursInSome model v = list_any (occurs_in v) model.constraints ≡ true

-- the week without held cells
abbrev pub without_held : Problem → Problem
without_held problem = record problem { is_held = λ one. false }
