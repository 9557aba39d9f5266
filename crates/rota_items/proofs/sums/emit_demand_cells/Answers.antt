use Rattle.rota_items.proofs.Common.{arith, exits, cell_refused, cells_join, loop_refused, Plus}
use Rattle.rota_items.proofs.sums.emit_demand_cells.Goals as goal

pub returns-in_err-term : goal.returns-in_err-term
returns-in_err-term g c =
    exits _ _ _ _ c.from_residual.ensures.0
    (loop_refused (cells_join _ Plus) _ _ _ _ _ _ (omega arith) c.loop-nurse.invariant
    (cell_refused g.T.Taker _ Plus _ _ _ _ c.cell_var.ensures c.in_err-term.ensures))
