use Rattle.rota_items.proofs.Common.{◌≡◌, ◌*◌, ◌≤◌, take, sum_by, problem_of, max_constant, constant_of_rule}
use Rattle.rota_items.proofs.rules.constant.Given as goal

abbrev pub invariant-loop-rule : goal.invariant-loop-rule
invariant-loop-rule l = record {
  number : l.sum ≡ sum_by (constant_of_rule (problem_of l.fn.instance)) (take l.rule-index l.rule-items);
  few : l.sum ≤ l.rule-index * max_constant;
}
