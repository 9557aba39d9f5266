use Rattle.rota_items.proofs.Common.{exits, lone_row, row_closed, row_refused, row_unstarted, term_events, Refused-one}
use Rattle.rota_items.proofs.Taking.{Took-one}
use Rattle.rota_items.proofs.hard.emit_unit.Goals as goal

pub returns-in_err-start_row : goal.returns-in_err-start_row
returns-in_err-start_row g c = exits _ _ _ _ c.from_residual.ensures.0 (row_unstarted g.T.Taker (lone_row _) _ _ c.in_err-start_row.ensures)

pub returns-in_err-term : goal.returns-in_err-term
unfolding term_events
returns-in_err-term g c =
    exits _ _ _ _ c.from_residual-in_err-term.ensures.0
    (row_refused g.T.Taker (lone_row _) _ _ c.in_ok-start_row.ensures _ (Refused-one _ _ _ (rw c.unit_var.ensures.number at c.in_err-term.ensures)))

pub returns : goal.returns
unfolding term_events
returns g c =
    row_closed g.T.Taker (lone_row _) _ _ c.in_ok-start_row.ensures _ _
    (Took-one _ _ _ (rw c.unit_var.ensures.number at c.in_ok-term.ensures)) _ c.close_row.ensures
