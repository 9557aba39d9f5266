use Rattle.std.proofs.Common.{◌≡◌, ◌≤◌, ◌*◌}
use Rattle.rota_core.specs.SumsBelow.{sum_below}
use Rattle.rota_certificate.specs.LentLeaves.{prices_lent, week_lent}
use Rattle.rota_certificate.specs.PlaceCases.{case_place_bound}
use Rattle.rota_certificate.proofs.places.bounds_of_shift.Given as goal

abbrev pub invariant-loop-skill : goal.invariant-loop-skill
invariant-loop-skill l = record {
  sum : l.sum ≡ sum_below l.skill (λ k.
      case_place_bound l.unit l.case l.week l.day l.shift k ((week_lent l.one).demand l.day l.shift k) (prices_lent l.one l.day l.shift k));
  small : l.sum ≤ l.skill * 30000000000000;
}
