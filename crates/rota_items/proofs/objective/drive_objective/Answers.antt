use Rattle.rota_items.proofs.Common.{◌∙◌, sym, events_join, exits, lone_row, nothing, row_closed, row_refused, row_unstarted}
use Rattle.rota_items.proofs.ObjectiveTaking.{no_row, one_row}
use Rattle.rota_items.proofs.objective.drive_objective.Goals as goal

pub returns-then-not-has_term : goal.returns-then-not-has_term
returns-then-not-has_term g c = rw (no_row _ (sym c.has_term.ensures ∙ c.if-not-has_term.true)) (nothing events_join _)

pub returns-in_err-start_row : goal.returns-in_err-start_row
returns-in_err-start_row g c =
    rw (one_row _ (sym c.has_term.ensures ∙ c.if-not-has_term.false))
    (exits _ _ _ _ c.from_residual.ensures.0 (row_unstarted g.T.Taker (lone_row _) _ _ c.in_err-start_row.ensures))

pub returns-in_err-emit_terms : goal.returns-in_err-emit_terms
returns-in_err-emit_terms g c =
    rw (one_row _ (sym c.has_term.ensures ∙ c.if-not-has_term.false))
    (exits _ _ _ _ c.from_residual-in_err-emit_terms.ensures.0
    (row_refused g.T.Taker (lone_row _) _ _ c.in_ok-start_row.ensures _ c.in_err-emit_terms.ensures))

pub returns : goal.returns
returns g c =
    rw (one_row _ (sym c.has_term.ensures ∙ c.if-not-has_term.false))
    (row_closed g.T.Taker (lone_row _) _ _ c.in_ok-start_row.ensures _ _ c.in_ok-emit_terms.ensures _ c.close_row.ensures)
