use Rattle.rota_rules.proofs.CostLemmas.{penalty-alike, rule_cost-alike}
use Rattle.rota_judge.proofs.AlikeRosters.{keeps-alike}
use Rattle.rota_judge.proofs.laws.rule_laws.alike_rosters_cost_the_same.Goals as goal

pub returns : goal.returns
returns c = λ week one other same. record {
  keeps = keeps-alike week one other same;
  costs = rule_cost-alike week one other same;
  penalties = penalty-alike week one other same;
}
