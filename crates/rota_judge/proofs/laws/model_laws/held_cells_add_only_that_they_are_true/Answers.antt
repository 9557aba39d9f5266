use Rattle.rota_judge.proofs.HeldModel.{held-add}
use Rattle.rota_judge.proofs.laws.model_laws.held_cells_add_only_that_they_are_true.Goals as goal

pub returns-clause-satisfies : goal.returns-clause-satisfies
returns-clause-satisfies c = held-add
