-- The slots of a solution file, and the roster that it spells.
use Rattle.std.specs.Prelude.{◌==◌, ◌&&◌, ◌≡◌}
use Rattle.rota_layout.specs.Layout.{ℕ, Bool, List, codes, list_any, max_number, ScenarioTables, Layout, end, ◌>>=◌}
use Rattle.rota_layout.specs.Layout.{exactly, number, any_word, known_name, none_taken, day_names, many, setting}
use Rattle.rota_core.specs.declared.values.Cell.{Cell}
use Rattle.rota_core.specs.Problem.{Problem}
use Rattle.rota_core.specs.Roster.{cell, InWeek}
use Rattle.rota_core.specs.RosterTables.{RosterTables, HasShapeOf, set_of}
use Rattle.rota_core.specs.InstanceTables.{InstanceTables, problem_of}
use Rattle.rota_layout.specs.Files.{Spells}

-- whether two cells have the same nurse, day, shift type and skill
abbrev pub is_same_cell : Cell → Cell → Bool
is_same_cell one other = one.nurse == other.nurse && one.day == other.day && one.shift == other.shift && one.skill == other.skill

-- whether a cell is one of these
abbrev pub is_one_cell : List Cell → Cell → Bool
is_one_cell cells one = list_any (is_same_cell one) cells

-- an assignment that no earlier row has
unfoldable pub assignment : ScenarioTables → List Cell → Layout Cell
assignment tables rows = do
  nurse ← known_name tables.nurses none_taken
  day ← known_name day_names none_taken
  shift ← known_name tables.shifts none_taken
  skill ← known_name tables.skills (λ skill. is_one_cell rows (cell nurse day shift skill))
  end (cell nurse day shift skill)

-- The slots of the whole file, which spell its assignments in order. Any week number and any word for the scenario's name are accepted.
unfoldable pub solution : ScenarioTables → Layout (List Cell)
solution tables = do
  _ ← exactly (codes "SOLUTION")
  _ ← number 0 max_number
  _ ← any_word
  count ← setting (codes "ASSIGNMENTS") 0 max_number
  many count (assignment tables)

-- the roster has the week's shape, and its cells in the week are these
pub record HasCells (problem : Problem) (roster : RosterTables) (cells : List Cell) : Type 0 where
  pub shape : HasShapeOf problem roster
  pub set : (one : Cell) → InWeek problem one → set_of roster one ≡ is_one_cell cells one

-- the text spells the assignments of the roster
pub record SpellsRoster (tables : InstanceTables) (text : List ℕ) (roster : RosterTables) : Type 0 where
  pub rows : List Cell
  pub spelled : Spells (solution tables.scenario) text rows
  pub cells : HasCells (problem_of tables) roster rows
