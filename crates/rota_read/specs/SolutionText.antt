-- The text of a roster: the solution file that is written for it.
use Rattle.std.specs.Prelude.{ℕ, ◌≤◌, List, [], ◌∷◌, ◌++◌, codes, length, slice_get, unwrap_or}
use Rattle.std.specs.List.{flat_map}
use Rattle.rota_core.specs.Limits.{max_file_len}
use Rattle.rota_core.specs.declared.values.Cell.{Cell}
use Rattle.rota_core.specs.InstanceTables.{InstanceTables, IsInstance, problem_of}
use Rattle.rota_core.specs.Numeral.{numeral}
use Rattle.rota_core.specs.Roster.{Roster}
use Rattle.rota_core.specs.RosterCells.{cells_of}
use Rattle.rota_core.specs.HardRules.{KeepsOneCell}
use Rattle.rota_core.specs.RosterTables.{RosterTables, HasShapeOf, set_of}
use Rattle.rota_core.specs.ScenarioTables.{ScenarioTables}
use Rattle.rota_layout.specs.Layout.{day_names}
use Rattle.rota_read.specs.SolutionLayout.{SpellsRoster}

-- the name with this index
abbrev pub name_at : List (List ℕ) → ℕ → List ℕ
name_at names index = unwrap_or (slice_get names index) []

-- two words on a line, separated by one blank
abbrev pub spaced : List ℕ → List ℕ → List ℕ
spaced one other = one ++ 32 ∷ other

-- a line with its line feed
abbrev pub ended : List ℕ → List ℕ
ended line = line ++ 10 ∷ []

-- the lines before the `count` assignments
unfoldable pub heading_text : InstanceTables → ℕ → List ℕ
heading_text tables count =
    ended (codes "SOLUTION")
    ++ ended (spaced (numeral tables.history.week) tables.scenario.name)
    ++ ended []
    ++ ended (codes "ASSIGNMENTS = " ++ numeral count)

-- the line of an assignment: nurse, day, shift type and skill
unfoldable pub assignment_text : ScenarioTables → Cell → List ℕ
assignment_text tables one =
    ended (
    spaced (name_at tables.nurses one.nurse)
    (spaced (name_at day_names one.day) (spaced (name_at tables.shifts one.shift) (name_at tables.skills one.skill)))
    )

-- the lines of these cells
abbrev pub rows_text : InstanceTables → List Cell → List ℕ
rows_text tables cells = flat_map (assignment_text tables.scenario) cells

-- the solution file of these cells
unfoldable pub text_of_cells : InstanceTables → List Cell → List ℕ
text_of_cells tables cells = heading_text tables (length cells) ++ rows_text tables cells

-- the solution file of a roster
abbrev pub solution_text : InstanceTables → Roster → List ℕ
solution_text tables roster = text_of_cells tables (cells_of (problem_of tables) roster)

-- The text of a roster spells that roster, if each nurse has at most one cell a day and the text is not too long to be read.
abbrev pub EachRosterHasItsText : Type 0
EachRosterHasItsText =
    (tables : InstanceTables) (roster : RosterTables) → IsInstance tables → HasShapeOf (problem_of tables) roster →
    KeepsOneCell (problem_of tables) (set_of roster) → length (solution_text tables (set_of roster)) ≤ max_file_len →
    SpellsRoster tables (solution_text tables (set_of roster)) roster
