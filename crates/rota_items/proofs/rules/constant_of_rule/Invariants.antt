use Rattle.rota_items.proofs.Common.{problem_of, max_constant, nurse_constant, SumOfEach}
use Rattle.rota_items.proofs.rules.constant_of_rule.Given as goal

abbrev pub invariant-loop-nurse : goal.invariant-loop-nurse
invariant-loop-nurse l = SumOfEach l.nurse max_constant (nurse_constant (problem_of l.fn.instance) l.fn.rule) l.sum
