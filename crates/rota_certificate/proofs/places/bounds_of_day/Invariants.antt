use Rattle.std.proofs.Common.{◌≡◌, ◌≤◌, ◌*◌}
use Rattle.rota_core.specs.SumsBelow.{sum_below}
use Rattle.rota_certificate.specs.LentLeaves.{prices_lent, week_lent}
use Rattle.rota_certificate.specs.PlaceCases.{case_place_bound}
use Rattle.rota_certificate.proofs.places.bounds_of_day.Given as goal

abbrev pub invariant-loop-shift : goal.invariant-loop-shift
invariant-loop-shift l = record {
  sum : l.sum ≡ sum_below l.shift (λ s. sum_below (week_lent l.one).skills (λ k.
      case_place_bound l.unit l.case l.week l.day s k ((week_lent l.one).demand l.day s k) (prices_lent l.one l.day s k)));
  small : l.sum ≤ l.shift * (16 * 30000000000000);
}
