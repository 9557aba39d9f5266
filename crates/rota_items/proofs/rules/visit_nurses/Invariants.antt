use Rattle.rota_items.proofs.Common.{problem_of, nurse_items}
use Rattle.rota_items.proofs.LoopSteps.{ItemSteps}
use Rattle.rota_items.proofs.rules.visit_nurses.Given as goal

abbrev pub invariant-loop-nurse : goal.invariant-loop-nurse
invariant-loop-nurse g l =
    let problem = problem_of l.fn.instance in
    ItemSteps g.T.ItemTaker problem l.nurse problem.nurses (nurse_items problem l.fn.rule) l.fn.taker l.taker
