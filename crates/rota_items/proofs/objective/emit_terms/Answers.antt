use Rattle.rota_items.proofs.Common.{cell_term_events, exits, go_on, goes_on, numbers_join, stop}
use Rattle.rota_items.proofs.objective.emit_terms.Goals as goal

pub returns-in_err-emit_cell_terms : goal.returns-in_err-emit_cell_terms
unfolding cell_term_events
returns-in_err-emit_cell_terms g c = exits _ _ _ _ c.from_residual.ensures.0 (stop numbers_join _ _ _ _ c.in_err-emit_cell_terms.ensures)

pub returns-in_err-emit_constant : goal.returns-in_err-emit_constant
unfolding cell_term_events
returns-in_err-emit_constant g c =
    exits _ _ _ _ c.from_residual-in_err-emit_constant.ensures.0
    (go_on numbers_join _ _ _ _ _ c.in_ok-emit_cell_terms.ensures (stop numbers_join _ _ _ _ c.in_err-emit_constant.ensures))

pub returns : goal.returns
unfolding cell_term_events
returns g c =
    goes_on numbers_join _ _ _ _ _ _ c.in_ok-emit_cell_terms.ensures
    (goes_on numbers_join _ _ _ _ _ _ c.in_ok-emit_constant.ensures c.emit_slack_weights.ensures)
