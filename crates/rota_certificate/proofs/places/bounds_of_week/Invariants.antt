use Rattle.std.proofs.Common.{◌≡◌, ◌≤◌, ◌*◌}
use Rattle.rota_core.specs.SumsBelow.{sum_below}
use Rattle.rota_certificate.specs.LentLeaves.{prices_lent, week_lent}
use Rattle.rota_certificate.specs.PlaceCases.{case_place_bound}
use Rattle.rota_certificate.proofs.places.bounds_of_week.Given as goal

abbrev pub invariant-loop-day : goal.invariant-loop-day
invariant-loop-day l = record {
  sum : l.sum ≡ sum_below l.day (λ d. sum_below (week_lent l.one).shifts (λ s. sum_below (week_lent l.one).skills (λ k.
      case_place_bound l.unit l.case l.week d s k ((week_lent l.one).demand d s k) (prices_lent l.one d s k))));
  small : l.sum ≤ l.day * (16 * (16 * 30000000000000));
}
