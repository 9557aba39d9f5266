use Rattle.rota_items.proofs.Common.{problem_of, concat_below, optimum_items_at}
use Rattle.rota_items.proofs.LoopSteps.{ItemSteps}
use Rattle.rota_items.proofs.rules.optimal_coverage.visit_day.Given as goal

abbrev pub invariant-loop-shift : goal.invariant-loop-shift
invariant-loop-shift g l =
    let problem = problem_of l.fn.instance in
    ItemSteps g.T.ItemTaker problem l.shift problem.shifts (λ s. concat_below problem.skills (optimum_items_at problem l.fn.day s)) l.fn.taker l.taker
