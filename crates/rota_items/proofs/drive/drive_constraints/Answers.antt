use Rattle.rota_items.proofs.Common.{[], ◌∷◌, numbered_rows, events_join, exits, go_on, goes_on, stop}
use Rattle.rota_items.proofs.RowTaking.{rows_refused, rows_taken}
use Rattle.rota_items.proofs.drive.drive_constraints.Goals as goal

pub returns-in_err-emit_unit : goal.returns-in_err-emit_unit
returns-in_err-emit_unit g c = exits _ _ _ _ c.from_residual.ensures.0 (stop events_join (_ ∷ []) _ _ _ c.in_err-emit_unit.ensures)

pub returns-in_err-visit_rule_rows : goal.returns-in_err-visit_rule_rows
unfolding numbered_rows
returns-in_err-visit_rule_rows g c =
    exits _ _ _ _ c.from_residual-in_err-visit_rule_rows.ensures.0
    (go_on events_join (_ ∷ []) _ _ _ _ c.in_ok-emit_unit.ensures
    (stop events_join _ _ _ _ (rows_refused g.T.Taker _ _ _ c.in_err-visit_rule_rows.ensures)))

pub returns : goal.returns
unfolding numbered_rows
returns g c =
    goes_on events_join (_ ∷ []) _ _ _ _ _ c.in_ok-emit_unit.ensures
    (goes_on events_join _ _ _ _ _ _ (rows_taken g.T.Taker _ _ _ c.in_ok-visit_rule_rows.ensures) c.emit_item_rows.ensures)
