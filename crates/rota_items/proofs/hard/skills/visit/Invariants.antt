use Rattle.rota_items.proofs.Common.{problem_of, concat_below, h4_rows_at}
use Rattle.rota_items.proofs.LoopSteps.{RowSteps}
use Rattle.rota_items.proofs.hard.skills.visit.Given as goal

abbrev pub invariant-loop-nurse : goal.invariant-loop-nurse
invariant-loop-nurse g l =
    let problem = problem_of l.fn.instance in
    RowSteps g.T.RowTaker problem l.nurse problem.nurses (λ n. concat_below problem.skills (h4_rows_at problem n)) l.fn.taker l.taker
