use Rattle.rota_judge.proofs.Common.{◌≡◌, take, problem_of, with_constants}
use Rattle.rota_judge.proofs.judge.taker.charge_constants.Given as goal

abbrev pub invariant-loop-rule : goal.invariant-loop-rule
invariant-loop-rule l = l.costs ≡ with_constants (problem_of l.fn.instance) (take l.rule-index l.rule-items) l.fn.costs
