use Rattle.rota_items.proofs.Common.{arith, exits, cell_refused, cells_join, loop_refused, Minus}
use Rattle.rota_items.proofs.sums.emit_skill_cells.Goals as goal

pub returns-in_err-term : goal.returns-in_err-term
returns-in_err-term g c =
    exits _ _ _ _ c.from_residual.ensures.0
    (loop_refused (cells_join _ Minus) _ _ _ _ _ _ (omega arith) c.loop-day.invariant
    (loop_refused (cells_join _ Minus) _ _ _ _ _ _ (omega arith) c.loop-shift.invariant
    (cell_refused g.T.Taker _ Minus _ _ _ _ c.cell_var.ensures c.in_err-term.ensures)))
