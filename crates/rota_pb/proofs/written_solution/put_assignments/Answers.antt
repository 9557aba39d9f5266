use Rattle.std.proofs.Common.{[], ◌∷◌, append_assoc, sym, ap, ◌∙◌}
use Rattle.std.specs.List.{AllByRecursion}
use Rattle.std.proofs.lemmas.List.{append-nil}
use Rattle.rota_core.specs.InstanceTables.{problem_of}
use Rattle.rota_core.specs.Roster.{Has, InWeek}
use Rattle.rota_core.specs.RosterCells.{cells_of}
use Rattle.rota_core.specs.RosterTables.{set_of}
use Rattle.rota_core.proofs.LogicWords.{AllByRecursion-back, all-weaker}
use Rattle.rota_read.specs.SolutionText.{rows_text}
use Rattle.text_sink.proofs.LogicWords.{puts_exit, puts_same, puts_stop, puts_then}
use Rattle.rota_pb.proofs.SinkLoops.{puts_nothing}
use Rattle.rota_pb.proofs.SolutionPieces.{rows-more, rows-left}
use Rattle.rota_pb.proofs.written_solution.put_assignments.Goals as goal

pub loop-cell-init : goal.loop-cell-init
loop-cell-init g c = record {
  puts = puts_nothing c.args.sink.now;
  left = c.into_iter-cell-iterator.ensures.into_iter_gives ∙ c.cells-cell-items.ensures ∙
      (c.rosters_list_their_cells.ensures.tables (problem_of c.args.instance.now) c.args.roster.now c.requires.shape).cells;
}

pub put_assignment-requires : goal.put_assignment-requires
put_assignment-requires g c =
    let problem = problem_of c.args.instance.now in
    let roster = set_of c.args.roster.now in
    let all : AllByRecursion (InWeek problem) (cells_of problem roster) =
    all-weaker (Has problem roster) (InWeek problem) (λ one has. has.in_week) (cells_of problem roster)
    (c.rosters_list_their_cells.ensures.cells problem roster).theirs in
    let left = rw c.in-Some.ensures.steps at c.loop-cell.invariant.left in
    record { in_week = (AllByRecursion-back (InWeek problem) c.loop-cell.yielded (c.in-Some.cell ∷ c.next.new.self) (rw left all)).1.0 }

pub returns-in_err-put_assignment : goal.returns-in_err-put_assignment
returns-in_err-put_assignment g c =
    let tables = c.args.instance.now in
    let left = rw c.in-Some.ensures.steps at c.loop-cell.invariant.left in
    puts_exit _ c.from_residual.ensures.0
    (puts_same (ap (rows_text tables) (sym left) ∙ rows-left tables c.loop-cell.yielded c.in-Some.cell c.next.new.self)
    (puts_stop (rows_text tables c.next.new.self) (puts_then c.loop-cell.invariant.puts c.in_err-put_assignment.ensures)))

pub loop-cell-preserved : goal.loop-cell-preserved
loop-cell-preserved g c = record {
  puts = puts_same (rows-more c.args.instance.now c.loop-cell.yielded c.in-Some.cell)
      (puts_then c.loop-cell.invariant.puts c.in_ok-put_assignment.ensures);
  left = append_assoc c.loop-cell.yielded (c.in-Some.cell ∷ []) c.next.new.self ∙
      (rw c.in-Some.ensures.steps at c.loop-cell.invariant.left);
}

pub returns : goal.returns
returns g c =
    let left = rw c.in-None.ensures.steps.0 at c.loop-cell.invariant.left in
    puts_same (ap (rows_text c.args.instance.now) (sym left ∙ append-nil c.loop-cell.yielded)) c.loop-cell.invariant.puts
