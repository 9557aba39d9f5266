-- The text of the events of rows.
use Rattle.std.specs.Prelude.{◌≡◌, ℕ, ℤ, Bool, true, false, List, [], ◌++◌, length, map, codes}
use Rattle.std.specs.List.{AllByRecursion}
use Rattle.rota_items.specs.declared.part.Part.{Part}
use Rattle.rota_items.specs.declared.part.Part.TheVariants.{Objective, Hard, Soft}
use Rattle.rota_items.specs.Events.{Event, start_row, term, close_row, events}
use Rattle.rota_items.specs.Linear.{Term}
use Rattle.rota_items.specs.Rows.{LinearRow, linear_constraint}
use Rattle.rota_items.specs.Objective.{objective_rows}
use Rattle.rota_core.specs.Numeral.{signed_numeral}
use Rattle.opb_text.specs.ModelText.{term_text, first_line, opb_text}
use Rattle.opb_text.specs.SinkTaker.{EventTexts, joined_texts}

abbrev pub is_objective : Part → Bool
is_objective Objective = true
is_objective (Hard rule) = false
is_objective (Soft rule weight) = false

-- the text before the terms of a row, of the objective or of a constraint
abbrev pub start_text : Bool → List ℕ
start_text true = codes "min: "
start_text false = []

-- the text after the terms
abbrev pub close_text : Bool → ℤ → List ℕ
close_text true degree = codes ";\n"
close_text false degree = codes ">= " ++ signed_numeral degree ++ codes " ;\n"

-- whether the row that is open after the event is the objective's, given whether the row open before it is
abbrev pub objective_after : Bool → Event → Bool
objective_after in_objective (start_row part) = is_objective part
objective_after in_objective (term coefficient variable) = in_objective
objective_after in_objective (close_row degree) = in_objective

-- the text of the event, if the row that is open before it is the objective's, or is not
abbrev pub event_text : Bool → Event → List ℕ
event_text in_objective (start_row part) = start_text (is_objective part)
event_text in_objective (term coefficient variable) = term_text (coefficient, variable)
event_text in_objective (close_row degree) = close_text in_objective degree

-- the texts of events; the kept state says whether the open row is the objective's
abbrev pub opb_texts : EventTexts Event Bool
opb_texts = record { text = event_text; after = objective_after }

-- the texts of the events, joined
abbrev pub events_text : Bool → List Event → List ℕ
events_text = joined_texts opb_texts

-- the row is a constraint
abbrev pub IsConstraint : {X : Type 0} → LinearRow X → Type 0
IsConstraint row = is_objective row.part ≡ false

-- the first line and the texts of the events of the objective's row and of the rows of constraints are the text of the model
abbrev pub EventsSpellTheirModel : Type 0
EventsSpellTheirModel =
    (variables : ℕ) (objective : List (Term ℕ)) (rows : List (LinearRow ℕ)) (before between : Bool) →
    AllByRecursion IsConstraint rows →
    first_line variables (length rows) ++ events_text before (events (objective_rows objective)) ++ events_text between (events rows) ≡
    opb_text (record { variables = variables; objective = objective; constraints = map linear_constraint rows })
