-- The result of a function that reads a roster's rows, as the contracts of private functions see it.
use Rattle.std.specs.Prelude.{◌≡◌, List, Result, Ok, Err}
use Rattle.rota_core.specs.declared.values.Cell.{Cell}
use Rattle.rota_core.specs.RosterTables.{RosterTables}
use Rattle.rota_core.specs.Problem.{Problem}
use Rattle.rota_layout.specs.declared.fault.LayoutError.{LayoutError}
use Rattle.rota_layout.specs.declared.fault.LineFault.{LineFault}
use Rattle.rota_layout.specs.Reading.{Reading, Fails}
use Rattle.rota_core.specs.ScenarioTables.{ScenarioTables}
use Rattle.rota_layout.specs.Layout.{Layout, one_more}
use Rattle.rota_read.specs.SolutionLayout.{assignment, HasCells}

-- one more assignment
unfoldable pub assignment_row : ScenarioTables → List Cell → Layout (List Cell)
assignment_row tables = one_more (assignment tables)

-- The result of a function is a roster of the cells that reading returns, and the rest is the same, unless memory ran out.
abbrev pub ReadsRoster : Problem → Result RosterTables LayoutError → Reading → Result (List Cell × Reading) LineFault → Type 0
ReadsRoster problem (Ok roster) left result = (rows : List Cell) × HasCells problem roster rows × (result ≡ Ok (rows, left))
ReadsRoster problem (Err e) left result = Fails e result

abbrev pub ReadsRosterFile : Problem → Result RosterTables LayoutError → Result (List Cell) LineFault → Type 0
ReadsRosterFile problem (Ok roster) result = (rows : List Cell) × HasCells problem roster rows × (result ≡ Ok rows)
ReadsRosterFile problem (Err e) result = Fails e result
