-- A roster as a table of truth values: a set of cells of a week.
use Rattle.std.specs.Prelude.{◌≡◌, Bool, false, List, length, slice_index_or}
use Rattle.rota_core.specs.Limits.{AreLimited}
use Rattle.rota_core.specs.Sizes.{Numbers}
use Rattle.rota_core.specs.Roster.{Roster, cell}
use Rattle.rota_core.specs.Problem.{Problem}
use Rattle.rota_core.specs.CellIndex.{cell_index, cell_count}

-- The numbers of nurses, shift types and skills, and for each index of a cell whether that cell is in the roster.
pub record RosterTables : Type 0 where
  pub numbers : Numbers
  pub open numbers use *
  pub cells : List Bool

-- the set of the roster's cells: those whose index has the value true (a cell outside the week may have the index of another)
abbrev pub set_of : RosterTables → Roster
set_of t cell = slice_index_or t.cells (cell_index t.shifts t.skills cell) false

-- the roster has the numbers of nurses, shift types and skills of the week
abbrev pub HasShapeOf : Problem → RosterTables → Type 0
HasShapeOf problem t = t.numbers ≡ problem.numbers

-- The numbers are within the limits, and the table has one truth value for each cell.
pub record IsRoster (t : RosterTables) : Type 0 where
  pub numbers : AreLimited t.numbers
  pub cells : length t.cells ≡ cell_count t.nurses t.shifts t.skills
