-- The row of the objective.
use Rattle.std.specs.Prelude.{◌∷◌}
use Rattle.rota_items.specs.Imports.{ℕ, pos, List, []}
use Rattle.rota_items.specs.Rows.{Objective, Term, LinearRow}

-- the objective's row, or no row if the objective has no term
abbrev pub objective_rows : List (Term ℕ) → List (LinearRow ℕ)
objective_rows [] = []
objective_rows (first ∷ others) = record { part = Objective; terms = first ∷ others; degree = pos 0 } ∷ []
