use Rattle.rota_items.proofs.Common.{arith, problem_of, soft_rules, exits, list_refused, items_join, items_of_rule}
use Rattle.rota_items.proofs.rules.visit_soft_items.Goals as goal

pub returns-in_err-visit_rule : goal.returns-in_err-visit_rule
returns-in_err-visit_rule g c =
    exits _ _ _ _ c.from_residual.ensures.0
    (list_refused (items_join _) (items_of_rule (problem_of c.args.instance.now)) soft_rules _ _ _ _ _ (omega arith) c.loop-rule.invariant
    c.in_err-visit_rule.ensures)
