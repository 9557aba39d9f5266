use Rattle.rota_items.proofs.Common.{problem_of, optimum_items_at}
use Rattle.rota_items.proofs.LoopSteps.{ItemSteps}
use Rattle.rota_items.proofs.rules.optimal_coverage.visit_shift.Given as goal

abbrev pub invariant-loop-skill : goal.invariant-loop-skill
invariant-loop-skill g l =
    let problem = problem_of l.fn.instance in
    ItemSteps g.T.ItemTaker problem l.skill problem.skills (optimum_items_at problem l.fn.day l.fn.shift) l.fn.taker l.taker
