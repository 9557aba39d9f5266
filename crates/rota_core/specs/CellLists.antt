-- How the list of a roster's cells describes the roster.
use Rattle.std.specs.Prelude.{◌≡◌, ◌*◌, ◌≤◌, Bool, false, length}
use Rattle.std.specs.List.{AllByRecursion, list_any}
use Rattle.rota_core.specs.Sizes.{DAYS}
use Rattle.rota_core.specs.declared.values.Cell.{Cell}
use Rattle.rota_core.specs.HardRules.{KeepsOneCell}
use Rattle.rota_core.specs.RisingLists.{RisesWithin}
use Rattle.rota_core.specs.Roster.{Roster, Has}
use Rattle.rota_core.specs.RosterCalls.{cells_in, count_of}
use Rattle.rota_core.specs.RosterCells.{cells_of}
use Rattle.rota_core.specs.RosterTables.{IsRoster, RosterTables, set_of}
use Rattle.rota_core.specs.CellIndex.{cell_index, cell_count}
use Rattle.rota_core.specs.Problem.{Problem}

-- the list contains exactly the roster's cells, by rising index; if the roster keeps H1, it has at most 7 * N cells for N nurses
pub record ListsCells (problem : Problem) (roster : Roster) : Type 0 where
  pub rise : RisesWithin (cell_index problem.shifts problem.skills) 0 (cell_count problem.nurses problem.shifts problem.skills)
      (cells_of problem roster)
  pub theirs : AllByRecursion (Has problem roster) (cells_of problem roster)
  -- if no cell of the list passes a test, no cell of the roster does
  pub all_there : (test : Cell → Bool) → list_any test (cells_of problem roster) ≡ false →
      (one : Cell) → Has problem roster one → test one ≡ false
  pub few : KeepsOneCell problem roster → length (cells_of problem roster) ≤ problem.nurses * DAYS

-- the tables list and count exactly the cells of the week that are in their set
pub record TablesListCells (problem : Problem) (t : RosterTables) : Type 0 where
  pub cells : cells_in t ≡ cells_of problem (set_of t)
  pub count : IsRoster t → count_of t ≡ length (cells_of problem (set_of t))
