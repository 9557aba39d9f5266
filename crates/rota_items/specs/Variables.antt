-- The numbers of the model's variables, and the roster that an assignment represents.
use Rattle.std.specs.Prelude.{◌+◌}
use Rattle.rota_items.specs.Imports.{ℕ, Bool, Cell, Problem, cell, Roster}
use Rattle.rota_core.specs.CellIndex.{cell_index, cell_count}

-- the number of the variable that is true if the cell is in the roster: its index plus 1
abbrev pub cell_number : Problem → Cell → ℕ
cell_number problem cell = cell_index problem.shifts problem.skills cell + 1

-- the number of the unit variable, true in every satisfying assignment; it follows the numbers of the cells' variables
abbrev pub unit_number : Problem → ℕ
unit_number problem = cell_count problem.nurses problem.shifts problem.skills + 1

-- the roster that an assignment represents: the cells whose variables are true
abbrev pub roster_of : Problem → (ℕ → Bool) → Roster
roster_of problem assignment cell = assignment (cell_number problem cell)
