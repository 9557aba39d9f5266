use Rattle.rota_items.proofs.Common.{arith, problem_of, soft_rules, exits, terms_join, list_refused, cell_terms_of_rule}
use Rattle.rota_items.proofs.rules.emit_cell_terms.Goals as goal

pub returns-in_err-emit_cell_terms_of_rule : goal.returns-in_err-emit_cell_terms_of_rule
returns-in_err-emit_cell_terms_of_rule g c =
    let problem = problem_of c.args.instance.now in
    exits _ _ _ _ c.from_residual.ensures.0
    (list_refused (terms_join problem) (cell_terms_of_rule problem) soft_rules _ _ _ _ _ (omega arith) c.loop-rule.invariant
    c.in_err-emit_cell_terms_of_rule.ensures)
