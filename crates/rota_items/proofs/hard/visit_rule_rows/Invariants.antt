use Rattle.rota_items.proofs.Common.{take, flat_map, problem_of, TookRows, rows_of_hard_rule}
use Rattle.rota_items.proofs.hard.visit_rule_rows.Given as goal

abbrev pub invariant-loop-rule : goal.invariant-loop-rule
invariant-loop-rule g l =
    let problem = problem_of l.fn.instance in
    TookRows g.T.RowTaker problem (flat_map (rows_of_hard_rule problem) (take l.rule-index l.rule-items)) l.fn.taker l.taker
