use Rattle.text_sink.proofs.LogicWords.{puts_same}
use Rattle.rota_pb.proofs.SolutionPieces.{name_at-is, assignment-pieces}
use Rattle.rota_pb.proofs.written_solution.put_assignment.Goals as goal

pub returns : goal.returns
returns g c =
    let scenario = c.args.instance.now.scenario in
    let cell = c.args.cell in
    puts_same (assignment-pieces scenario cell)
    (rw (
      ← name_at-is scenario.nurses cell.nurse _ c.nurse_name.ensures,
      c.day_name.ensures,
      ← name_at-is scenario.shifts cell.shift _ c.shift_name.ensures,
      ← name_at-is scenario.skills cell.skill _ c.skill_name.ensures,
    ) at c.put_all.ensures.takes)
