use Rattle.rota_judge.proofs.ModelTerms.{units-constraints}
use Rattle.rota_judge.proofs.laws.size_laws.constraint_coefficients_are_units.Goals as goal

pub returns : goal.returns
returns c = units-constraints
