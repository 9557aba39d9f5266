use Rattle.rota_items.proofs.Common.{take, flat_map, problem_of, cell_term_events, Took, cell_terms_of_rule}
use Rattle.rota_items.proofs.rules.emit_cell_terms.Given as goal

abbrev pub invariant-loop-rule : goal.invariant-loop-rule
invariant-loop-rule g l =
    let problem = problem_of l.fn.instance in
    Took g.T.Taker (cell_term_events problem (flat_map (cell_terms_of_rule problem) (take l.rule-index l.rule-items))) l.fn.taker l.taker
