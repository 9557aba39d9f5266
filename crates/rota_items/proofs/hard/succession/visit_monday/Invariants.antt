use Rattle.rota_items.proofs.Common.{problem_of, h3_monday_rows_at}
use Rattle.rota_items.proofs.LoopSteps.{RowSteps}
use Rattle.rota_items.proofs.hard.succession.visit_monday.Given as goal

abbrev pub invariant-loop-shift : goal.invariant-loop-shift
invariant-loop-shift g l =
    let problem = problem_of l.fn.instance in
    RowSteps g.T.RowTaker problem l.shift problem.shifts (h3_monday_rows_at problem l.fn.nurse) l.fn.taker l.taker
