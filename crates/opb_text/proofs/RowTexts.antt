-- The texts of the events of rows.
use Rattle.std.proofs.Common.{◌≡◌, ℕ, pos, List, [], ◌∷◌, ◌++◌, Bool, length, map, refl, sym, ap, ◌∙◌, append_assoc}
use Rattle.std.specs.List.{flat_map, AllByRecursion}
use Rattle.std.proofs.lemmas.List.{append-nil, length-map}
use Rattle.rota_items.specs.declared.part.Part.TheVariants.{Objective}
use Rattle.rota_items.specs.Events.{Event, close_row, term_events, row_events, events}
use Rattle.rota_items.specs.Linear.{Term}
use Rattle.rota_items.specs.Rows.{LinearRow, linear_constraint}
use Rattle.rota_items.specs.Objective.{objective_rows}
use Rattle.opb_text.specs.ModelText.{term_text, terms_text, constraint_line, objective_line, first_line}
use Rattle.opb_text.specs.EventText.{is_objective, start_text, close_text, events_text, IsConstraint, EventsSpellTheirModel}

-- the terms' text, and then the text of the events that follow
terms-text : (b : Bool) (terms : List (Term ℕ)) (after : List Event) →
    events_text b (term_events terms ++ after) ≡ terms_text terms ++ events_text b after
unfolding term_events
terms-text b [] after = refl
terms-text b (t ∷ ts) after =
    ap (λ text. term_text t ++ text) (terms-text b ts after) ∙ sym (append_assoc (term_text t) (terms_text ts) (events_text b after))

abbrev row_text : LinearRow ℕ → List ℕ
row_text row = start_text (is_objective row.part) ++ (terms_text row.terms ++ close_text (is_objective row.part) row.degree)

row-text : (b : Bool) (row : LinearRow ℕ) (after : List Event) →
    events_text b (row_events row ++ after) ≡ row_text row ++ events_text (is_objective row.part) after
row-text b row after =
    let o = is_objective row.part in
    let start = start_text o in
    let terms = terms_text row.terms in
    let close = close_text o row.degree in
    let rest = events_text o after in
    ap (λ text. start ++ text)
    (ap (events_text o) (append_assoc (term_events row.terms) (close_row row.degree ∷ []) after) ∙
    terms-text o row.terms (close_row row.degree ∷ after) ∙ sym (append_assoc terms close rest)) ∙
    sym (append_assoc start (terms ++ close) rest)

constraint-text : (row : LinearRow ℕ) → IsConstraint row → row_text row ≡ constraint_line (linear_constraint row)
constraint-text row constraint =
    ap (λ o. start_text o ++ (terms_text row.terms ++ close_text o row.degree)) constraint ∙ simp append_assoc

-- the events of rows of constraints write the lines of the constraints
pub constraints_text : (b : Bool) (rows : List (LinearRow ℕ)) → AllByRecursion IsConstraint rows →
    events_text b (events rows) ≡ flat_map constraint_line (map linear_constraint rows)
unfolding events
constraints_text b [] constraints = refl
constraints_text b (row ∷ rows) constraints =
    row-text b row (events rows) ∙
    ap (λ text. row_text row ++ text) (constraints_text (is_objective row.part) rows constraints.1) ∙
    ap (λ text. text ++ flat_map constraint_line (map linear_constraint rows)) (constraint-text row constraints.0)

-- the events of the objective's row write the line of the objective
pub objective_text : (b : Bool) (terms : List (Term ℕ)) →
    events_text b (events (objective_rows terms)) ≡ objective_line terms
unfolding events
objective_text b [] = refl
objective_text b (t ∷ ts) =
    let row : LinearRow ℕ = record { part = Objective; terms = t ∷ ts; degree = pos 0 } in
    row-text b row [] ∙ append-nil (row_text row)

pub events_spell_their_model : EventsSpellTheirModel
events_spell_their_model variables objective rows before between constraints =
    let objective_part = events_text before (events (objective_rows objective)) in
    let constraints_part = events_text between (events rows) in
    ap (λ count. first_line variables count ++ objective_part ++ constraints_part) (sym (length-map rows linear_constraint)) ∙
    ap (λ text. first_line variables (length (map linear_constraint rows)) ++ text ++ constraints_part) (objective_text before objective) ∙
    ap (λ text. first_line variables (length (map linear_constraint rows)) ++ objective_line objective ++ text)
    (constraints_text between rows constraints)
