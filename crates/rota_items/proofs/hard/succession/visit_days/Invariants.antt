use Rattle.rota_items.proofs.Common.{problem_of, h3_rows_between}
use Rattle.rota_items.proofs.LoopSteps.{RowSteps}
use Rattle.rota_items.proofs.hard.succession.visit_days.Given as goal

abbrev pub invariant-loop-day : goal.invariant-loop-day
invariant-loop-day g l =
    let problem = problem_of l.fn.instance in
    RowSteps g.T.RowTaker problem l.day 6 (h3_rows_between problem l.fn.nurse) l.fn.taker l.taker
