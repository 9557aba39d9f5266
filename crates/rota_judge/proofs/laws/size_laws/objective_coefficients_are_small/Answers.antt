use Rattle.rota_judge.proofs.ObjectiveBound.{objective-small}
use Rattle.rota_judge.proofs.laws.size_laws.objective_coefficients_are_small.Goals as goal

pub returns : goal.returns
returns c = objective-small
