use Rattle.rota_judge.proofs.ModelTerms.{rises-constraints}
use Rattle.rota_judge.proofs.laws.model_laws.constraints_have_rising_terms.Goals as goal

pub returns : goal.returns
returns c = rises-constraints
