-- The pieces of the lines of a solution file.
use Rattle.std.proofs.Common.{◌≡◌, ℕ, List, [], ◌∷◌, ◌++◌, append_assoc, Option, Some, sym, ap, ◌∙◌}
use Rattle.std.specs.Prelude.{codes, slice_get, unwrap_or}
use Rattle.std.proofs.lemmas.List.{append-nil}
use Rattle.rota_core.specs.declared.values.Cell.{Cell}
use Rattle.rota_core.specs.InstanceTables.{InstanceTables}
use Rattle.rota_core.specs.Numeral.{numeral}
use Rattle.rota_core.specs.ScenarioTables.{ScenarioTables}
use Rattle.std.proofs.lemmas.List.Concat.{flat_map-append}
use Rattle.rota_layout.specs.Layout.{day_names}
use Rattle.rota_read.specs.SolutionText.{spaced, ended, name_at, heading_text, assignment_text}
use Rattle.rota_read.specs.SolutionText.{rows_text}

heading-regrouped : (week name count : List ℕ) →
    ended (codes "SOLUTION") ++ ended (spaced week name) ++ ended [] ++ ended (codes "ASSIGNMENTS = " ++ count)
    ≡ codes "SOLUTION\n" ++ (week ++ (codes " " ++ (name ++ (codes "\n\nASSIGNMENTS = " ++ (count ++ codes "\n")))))
heading-regrouped week name count = simp append_assoc

pub heading-pieces : (tables : InstanceTables) (count : ℕ) →
    heading_text tables count ≡
    codes "SOLUTION\n" ++ (numeral tables.history.week ++ (codes " " ++ (tables.scenario.name ++
    (codes "\n\nASSIGNMENTS = " ++ (numeral count ++ codes "\n")))))
unfolding heading_text
heading-pieces tables count = heading-regrouped (numeral tables.history.week) tables.scenario.name (numeral count)

assignment-regrouped : (nurse day shift skill : List ℕ) →
    ended (spaced nurse (spaced day (spaced shift skill)))
    ≡ nurse ++ (codes " " ++ (day ++ (codes " " ++ (shift ++ (codes " " ++ (skill ++ codes "\n"))))))
assignment-regrouped nurse day shift skill = simp append_assoc

pub assignment-pieces : (tables : ScenarioTables) (one : Cell) →
    assignment_text tables one
    ≡ name_at tables.nurses one.nurse ++ (codes " " ++ (name_at day_names one.day ++ (codes " " ++
    (name_at tables.shifts one.shift ++ (codes " " ++ (name_at tables.skills one.skill ++ codes "\n"))))))
unfolding assignment_text
assignment-pieces tables one =
    assignment-regrouped (name_at tables.nurses one.nurse) (name_at day_names one.day) (name_at tables.shifts one.shift)
    (name_at tables.skills one.skill)

-- the name of a number, if it has one
pub name_at-is : (names : List (List ℕ)) (index : ℕ) (name : List ℕ) → slice_get names index ≡ Some name → name_at names index ≡ name
name_at-is names index name is = ap (λ (found : Option (List ℕ)). unwrap_or found []) is

-- the row of one more cell
pub rows-more : (tables : InstanceTables) (cells : List Cell) (one : Cell) →
    rows_text tables (cells ++ one ∷ []) ≡ rows_text tables cells ++ assignment_text tables.scenario one
rows-more tables cells one =
    flat_map-append (assignment_text tables.scenario) cells (one ∷ []) ∙
    ap (λ (row : List ℕ). rows_text tables cells ++ row) (append-nil (assignment_text tables.scenario one))

-- and the rows of the cells after it
pub rows-left : (tables : InstanceTables) (cells : List Cell) (one : Cell) (others : List Cell) →
    rows_text tables (cells ++ one ∷ others)
    ≡ (rows_text tables cells ++ assignment_text tables.scenario one) ++ rows_text tables others
rows-left tables cells one others =
    flat_map-append (assignment_text tables.scenario) cells (one ∷ others) ∙
    sym (append_assoc (rows_text tables cells) (assignment_text tables.scenario one) (rows_text tables others))
