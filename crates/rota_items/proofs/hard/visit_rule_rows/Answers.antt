use Rattle.rota_items.proofs.Common.{arith, problem_of, hard_rules, rows_of_hard_rule, exits, rows_join, list_refused}
use Rattle.rota_items.proofs.hard.visit_rule_rows.Goals as goal

pub returns-in_err-visit_rule : goal.returns-in_err-visit_rule
returns-in_err-visit_rule g c =
    let problem = problem_of c.args.instance.now in
    exits _ _ _ _ c.from_residual.ensures.0
    (list_refused (rows_join problem) (rows_of_hard_rule problem) hard_rules _ _ _ _ _ (omega arith) c.loop-rule.invariant c.in_err-visit_rule.ensures)
