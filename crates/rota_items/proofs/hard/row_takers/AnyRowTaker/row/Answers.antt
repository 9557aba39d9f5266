use Rattle.rota_items.proofs.Common.{w64, rules, to_z-of_z, cell_term_events, exits, row-is, row_closed, row_refused, row_unstarted}
use Rattle.rota_items.proofs.RowTaking.{takes_row}
use Rattle.rota_items.proofs.hard.row_takers.AnyRowTaker.row.Goals as goal

pub returns-in_err-start_row : goal.returns-in_err-start_row
returns-in_err-start_row g c =
    takes_row g.T.Taker _ _ _ _ (exits _ _ _ _ c.from_residual.ensures.0 (row_unstarted g.T.Taker (row-is _) _ _ c.in_err-start_row.ensures))

pub returns-in_err-emit_sum : goal.returns-in_err-emit_sum
unfolding cell_term_events
returns-in_err-emit_sum g c =
    takes_row g.T.Taker _ _ _ _
    (exits _ _ _ _ c.from_residual-in_err-emit_sum.ensures.0
    (row_refused g.T.Taker (row-is _) _ _ c.in_ok-start_row.ensures _ c.in_err-emit_sum.ensures))

pub returns : goal.returns
unfolding cell_term_events
returns g c =
    let exact = to_z-of_z w64 c.args.row.degree (search rules) in
    takes_row g.T.Taker _ _ _ _
    (row_closed g.T.Taker (row-is _) _ _ c.in_ok-start_row.ensures _ _ c.in_ok-emit_sum.ensures _ (rw exact at c.close_row.ensures))
