use Rattle.rota_items.proofs.Common.{problem_of, concat_below, h2_rows_at}
use Rattle.rota_items.proofs.LoopSteps.{RowSteps}
use Rattle.rota_items.proofs.hard.minimum.visit_day.Given as goal

abbrev pub invariant-loop-shift : goal.invariant-loop-shift
invariant-loop-shift g l =
    let problem = problem_of l.fn.instance in
    RowSteps g.T.RowTaker problem l.shift problem.shifts (λ s. concat_below problem.skills (h2_rows_at problem l.fn.day s)) l.fn.taker l.taker
