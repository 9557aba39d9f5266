use Rattle.rota_items.proofs.Common.{cell_taken, Plus}
use Rattle.rota_items.proofs.sum_terms.emit_sum.Goals as goal

pub returns-in-Single : goal.returns-in-Single
returns-in-Single g c = rw c.in-Single.is (cell_taken g.T.Taker _ Plus _ _ _ _ _ c.cell_var.ensures c.term.ensures)
