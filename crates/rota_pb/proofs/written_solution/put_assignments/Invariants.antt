use Rattle.std.proofs.Common.{◌≡◌, ◌++◌, Ok}
use Rattle.rota_core.specs.InstanceTables.{problem_of}
use Rattle.rota_core.specs.RosterCells.{cells_of}
use Rattle.rota_core.specs.RosterTables.{set_of}
use Rattle.rota_read.specs.SolutionText.{rows_text}
use Rattle.text_sink.specs.Sink.{PutsText}
use Rattle.rota_pb.proofs.written_solution.put_assignments.Given as goal

-- the rows of the cells so far are written, and the others are left
abbrev pub invariant-loop-cell : goal.invariant-loop-cell
invariant-loop-cell g l =
    let w = l.fn in
    record {
      puts : PutsText w.sink (Ok tt) (rows_text w.instance l.yielded) l.sink;
      left : l.yielded ++ l.cell-iterator ≡ cells_of (problem_of w.instance) (set_of w.roster);
    }
