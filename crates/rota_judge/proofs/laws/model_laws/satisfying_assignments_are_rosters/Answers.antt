use Rattle.rota_judge.proofs.Extension.{satisfying-keeps, satisfying-objective}
use Rattle.rota_judge.proofs.laws.model_laws.satisfying_assignments_are_rosters.Goals as goal

pub returns-clause-keeps : goal.returns-clause-keeps
returns-clause-keeps c = satisfying-keeps

pub returns-clause-penalty : goal.returns-clause-penalty
returns-clause-penalty c = satisfying-objective
