use Rattle.rota_items.proofs.Common.{problem_of, concat_below, h3_rows_at}
use Rattle.rota_items.proofs.LoopSteps.{RowSteps}
use Rattle.rota_items.proofs.hard.succession.visit_between.Given as goal

abbrev pub invariant-loop-first : goal.invariant-loop-first
invariant-loop-first g l =
    let problem = problem_of l.fn.instance in
    RowSteps g.T.RowTaker problem l.first problem.shifts (λ s. concat_below problem.shifts (h3_rows_at problem l.fn.nurse l.fn.day s)) l.fn.taker l.taker
