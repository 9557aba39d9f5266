use Rattle.rota_items.proofs.Common.{take, flat_map, problem_of, TookItems, items_of_rule}
use Rattle.rota_items.proofs.rules.visit_soft_items.Given as goal

abbrev pub invariant-loop-rule : goal.invariant-loop-rule
invariant-loop-rule g l =
    let problem = problem_of l.fn.instance in
    TookItems g.T.ItemTaker problem (flat_map (items_of_rule problem) (take l.rule-index l.rule-items)) l.fn.taker l.taker
