use Rattle.rota_items.proofs.Common.{problem_of, h3_rows_at}
use Rattle.rota_items.proofs.LoopSteps.{RowSteps}
use Rattle.rota_items.proofs.hard.succession.visit_after.Given as goal

abbrev pub invariant-loop-second : goal.invariant-loop-second
invariant-loop-second g l =
    let problem = problem_of l.fn.instance in
    RowSteps g.T.RowTaker problem l.second problem.shifts (h3_rows_at problem l.fn.nurse l.fn.day l.fn.first) l.fn.taker l.taker
