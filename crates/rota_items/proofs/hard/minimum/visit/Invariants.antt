use Rattle.rota_items.proofs.Common.{problem_of, concat_below, h2_rows_at}
use Rattle.rota_items.proofs.LoopSteps.{RowSteps}
use Rattle.rota_items.proofs.hard.minimum.visit.Given as goal

abbrev pub invariant-loop-day : goal.invariant-loop-day
invariant-loop-day g l =
    let problem = problem_of l.fn.instance in
    RowSteps g.T.RowTaker problem l.day 7 (λ d. concat_below problem.shifts (λ s. concat_below problem.skills (h2_rows_at problem d s))) l.fn.taker l.taker
