use Rattle.rota_items.proofs.Common.{problem_of, h3_rows_of}
use Rattle.rota_items.proofs.LoopSteps.{RowSteps}
use Rattle.rota_items.proofs.hard.succession.visit.Given as goal

abbrev pub invariant-loop-nurse : goal.invariant-loop-nurse
invariant-loop-nurse g l =
    let problem = problem_of l.fn.instance in
    RowSteps g.T.RowTaker problem l.nurse problem.nurses (h3_rows_of problem) l.fn.taker l.taker
