use Rattle.rota_judge.proofs.Common.Imports.{All-from_recursion, objective_terms}
use Rattle.rota_judge.proofs.ObjectiveBound.{coefficients-positive}
use Rattle.rota_judge.proofs.laws.size_laws.objective_coefficients_are_positive.Goals as goal

pub returns : goal.returns
returns c = λ week. All-from_recursion _ (objective_terms week) (coefficients-positive week)
