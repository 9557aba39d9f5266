use Rattle.std.proofs.Common.{◌≡◌, ◌-◌, List, []}
use Rattle.rota_core.specs.declared.values.Cell.{Cell}
use Rattle.rota_core.specs.InstanceTables.{problem_of}
use Rattle.rota_layout.specs.Layout.{repeat}
use Rattle.rota_layout.specs.Reading.{read_layout}
use Rattle.rota_read.specs.RosterReading.{assignment_row}
use Rattle.rota_read.specs.SolutionLayout.{HasCells}
use Rattle.rota_read.proofs.solution.assignment_rows.Given as goal

abbrev pub invariant-loop : goal.invariant-loop
invariant-loop l =
    (rows : List Cell) × HasCells (problem_of l.instance) l.roster rows
    × (read_layout (repeat (l.count - l.counter) (assignment_row l.instance.scenario) rows) l.cursor ≡
    read_layout (repeat l.count (assignment_row l.instance.scenario) []) l.fn.cursor)
