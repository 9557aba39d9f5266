use Rattle.rota_judge.proofs.Extension.{extension-satisfies}
use Rattle.rota_judge.proofs.laws.model_laws.rosters_extend_at_their_penalty.Goals as goal

pub returns-clause-satisfies : goal.returns-clause-satisfies
returns-clause-satisfies c = extension-satisfies
