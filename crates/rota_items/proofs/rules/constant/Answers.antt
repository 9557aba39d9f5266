use Rattle.rota_items.proofs.Common.{arith}
use Rattle.rota_items.proofs.RuleSizes.{few-constant_of_rule}
use Rattle.rota_items.proofs.rules.constant.Goals as goal

pub overflow_add-sum : goal.overflow_add-sum
overflow_add-sum c = grind (arith, few-constant_of_rule c.args.instance.now c.constant_of_rule-sum.ensures.limits)
