use Rattle.std.proofs.Common.{◌≡◌, ◌+◌, ◌*◌, ◌≤◌, take}
use Rattle.std.specs.List.{sum}
use Rattle.rota_rules.specs.CountedTotals.{added_excess}
use Rattle.rota_rules.proofs.early_totals.early_excess.Given as goal

abbrev pub invariant-loop-step : goal.invariant-loop-step
invariant-loop-step l =
    let so_far = sum (take l.step-index l.fn.steps) in
    (l.total ≡ l.fn.start + so_far) ×
    (l.excess ≡ added_excess l.limit l.fn.start so_far) ×
    (so_far ≤ l.step-index * 7)
