-- Rosters, and the cells that they contain.
use Rattle.std.specs.Prelude.{◌≡◌, ℕ, ◌<◌, Bool, true}
use Rattle.rota_core.specs.Sizes.{DAYS}
use Rattle.rota_core.specs.declared.values.Cell.{Cell}
use Rattle.rota_core.specs.Problem.{Problem}

-- a roster: a set of cells, as a function that says whether a cell is in it
abbrev pub Roster : Type 0
Roster = Cell → Bool

-- the cell of nurse n, day d, shift type s and skill k
abbrev pub cell : (nurse day shift skill : ℕ) → Cell
cell n d s k = record { nurse = n; day = d; shift = s; skill = k }

-- the cell's nurse, day, shift type and skill are in the week: each is below the number of them
pub record InWeek (problem : Problem) (cell : Cell) : Type 0 where
  pub nurse_in : cell.nurse < problem.nurses
  pub day_in : cell.day < DAYS
  pub shift_in : cell.shift < problem.shifts
  pub skill_in : cell.skill < problem.skills

-- the cell is in the week and in the roster
pub record Has (problem : Problem) (roster : Roster) (cell : Cell) : Type 0 where
  pub in_week : InWeek problem cell
  pub in_roster : roster cell ≡ true
