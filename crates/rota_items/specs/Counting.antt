-- The counts of a counter from the events of rows, and the counts that it must find.
use Rattle.std.specs.Prelude.{ℕ, ◌+◌, min, max, Bool, true, false, List, [], ◌∷◌, map, length}
use Rattle.std.specs.List.{count_by, flat_map}
use Rattle.rota_items.specs.declared.counting.counter.Counts.{Counts}
use Rattle.rota_items.specs.declared.part.Part.{Part}
use Rattle.rota_items.specs.declared.part.Part.TheVariants.{Objective, Hard, Soft}
use Rattle.rota_items.specs.Events.{Event, start_row, term, close_row}
use Rattle.rota_items.specs.MachineBounds.{max_count}
use Rattle.rota_items.specs.Linear.{Term, Model}
use Rattle.rota_items.specs.Rows.{LinearRow}

abbrev pub no_counts : Counts
no_counts = record { variables = 0; constraints = 0 }

abbrev pub one_constraint_more : Counts → Counts
one_constraint_more counts = record counts { constraints = min (counts.constraints + 1) max_count }

-- the counts after one more event
abbrev pub counted : Counts → Event → Counts
counted counts (start_row Objective) = counts
counted counts (start_row (Hard rule)) = one_constraint_more counts
counted counts (start_row (Soft rule weight)) = one_constraint_more counts
counted counts (term coefficient variable) = record counts { variables = max counts.variables variable }
counted counts (close_row degree) = counts

-- whether the part is a constraint, and not the objective
abbrev pub is_constraint : Part → Bool
is_constraint Objective = false
is_constraint (Hard rule) = true
is_constraint (Soft rule weight) = true

-- the variables of the rows' terms
abbrev pub variables_in : List (LinearRow ℕ) → List ℕ
variables_in rows = flat_map (λ (row : LinearRow ℕ). map (λ (term : Term ℕ). term.1) row.terms) rows

-- the maximum of the variables, 0 if there are none
abbrev pub maximum : List ℕ → ℕ
maximum [] = 0
maximum (n ∷ ns) = max n (maximum ns)

-- the maximum variable of the rows, and the number of constraints among them (at most max_count)
abbrev pub counts_of : List (LinearRow ℕ) → Counts
counts_of rows = record {
  variables = maximum (variables_in rows);
  constraints = min (count_by (λ (row : LinearRow ℕ). is_constraint row.part) rows) max_count;
}

-- the numbers of a model's variables and constraints
abbrev pub counts_of_model : Model → Counts
counts_of_model model = record { variables = model.variables; constraints = length model.constraints }
