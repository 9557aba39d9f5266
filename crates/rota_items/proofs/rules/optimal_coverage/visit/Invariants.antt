use Rattle.rota_items.proofs.Common.{problem_of, concat_below, optimum_items_at}
use Rattle.rota_items.proofs.LoopSteps.{ItemSteps}
use Rattle.rota_items.proofs.rules.optimal_coverage.visit.Given as goal

abbrev pub invariant-loop-day : goal.invariant-loop-day
invariant-loop-day g l =
    let problem = problem_of l.fn.instance in
    ItemSteps g.T.ItemTaker problem l.day 7 (λ d. concat_below problem.shifts (λ s. concat_below problem.skills (optimum_items_at problem d s))) l.fn.taker l.taker
