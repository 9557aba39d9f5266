use Rattle.rota_judge.proofs.Common.{arith, ints}
use Rattle.rota_judge.proofs.Extension.{extension-satisfies, extension-objective, satisfying-keeps, satisfying-objective}
use Rattle.rota_judge.proofs.laws.model_laws.min_objective_is_min_penalty.Goals as goal

pub returns-clause-minimum : goal.returns-clause-minimum
returns-clause-minimum c = λ week minimum. (
  λ bound roster keeps. omega (arith, ints, bound _ (extension-satisfies week roster keeps), extension-objective week roster keeps),
  λ bound assignment all. omega (arith, ints, bound _ (satisfying-keeps week assignment all), satisfying-objective week assignment all),
)

pub returns-clause-none : goal.returns-clause-none
returns-clause-none c = λ week. (
  λ no_assignment roster keeps. no_assignment _ (extension-satisfies week roster keeps),
  λ no_roster assignment all. no_roster _ (satisfying-keeps week assignment all),
)
