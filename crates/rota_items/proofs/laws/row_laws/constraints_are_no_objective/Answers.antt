use Rattle.rota_items.proofs.RowParts.{constraints-rows}
use Rattle.rota_items.proofs.laws.row_laws.constraints_are_no_objective.Goals as goal

pub returns : goal.returns
returns c = constraints-rows
