use Rattle.rota_judge.proofs.LawProofs.{charged-rule}
use Rattle.rota_items.proofs.ItemLemmas.{charged_on}
use Rattle.rota_judge.proofs.laws.rule_laws.items_charge_each_rule_its_cost.Goals as goal

pub returns-clause-charges : goal.returns-clause-charges
returns-clause-charges c = charged-rule

pub returns-clause-on_all : goal.returns-clause-on_all
returns-clause-on_all c = λ week roster rule keeps. charged-rule week roster rule (charged_on week roster keeps rule)
