use Rattle.rota_items.proofs.Common.{exits, go_on, goes_on, stop, day_after, day_before, days_with, ◌++◌}
use Rattle.rota_items.proofs.DayTerms.{days_join}
use Rattle.rota_items.proofs.sum_terms.emit_pattern_days.Goals as goal

pub returns-in_err-emit_day_before : goal.returns-in_err-emit_day_before
returns-in_err-emit_day_before g c =
    let pattern = c.args.pattern in
    exits _ _ _ _ c.from_residual.ensures.0
    (stop (days_join _ _) (day_before pattern) (days_with pattern.first pattern.end ++ day_after pattern) _ _ c.in_err-emit_day_before.ensures)

pub returns-in_err-emit_days : goal.returns-in_err-emit_days
returns-in_err-emit_days g c =
    let pattern = c.args.pattern in
    exits _ _ _ _ c.from_residual-in_err-emit_days.ensures.0
    (go_on (days_join _ _) (day_before pattern) (days_with pattern.first pattern.end ++ day_after pattern) _ _ _ c.in_ok-emit_day_before.ensures
    (stop (days_join _ _) (days_with pattern.first pattern.end) (day_after pattern) _ _ c.in_err-emit_days.ensures))

pub returns : goal.returns
returns g c =
    let pattern = c.args.pattern in
    goes_on (days_join _ _) (day_before pattern) (days_with pattern.first pattern.end ++ day_after pattern) _ _ _ _ c.in_ok-emit_day_before.ensures
    (goes_on (days_join _ _) (days_with pattern.first pattern.end) (day_after pattern) _ _ _ _ c.in_ok-emit_days.ensures c.emit_day_after.ensures)
