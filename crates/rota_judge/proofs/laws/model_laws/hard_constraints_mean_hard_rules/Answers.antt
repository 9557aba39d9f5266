use Rattle.rota_judge.proofs.ModelMeaning.{hard_constraints-mean}
use Rattle.rota_judge.proofs.laws.model_laws.hard_constraints_mean_hard_rules.Goals as goal

pub returns : goal.returns
returns c = hard_constraints-mean
