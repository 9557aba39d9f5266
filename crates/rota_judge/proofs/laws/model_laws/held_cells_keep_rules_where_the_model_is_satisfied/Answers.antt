use Rattle.rota_judge.proofs.HeldModel.{held-one_cell, held-skills, held-succession}
use Rattle.rota_judge.proofs.laws.model_laws.held_cells_keep_rules_where_the_model_is_satisfied.Goals as goal

pub returns-clause-one_cell : goal.returns-clause-one_cell
returns-clause-one_cell c = held-one_cell

pub returns-clause-succession : goal.returns-clause-succession
returns-clause-succession c = held-succession

pub returns-clause-skills : goal.returns-clause-skills
returns-clause-skills c = held-skills
