use Rattle.std.proofs.Common.{◌≡◌, ◌*◌, ◌≤◌}
use Rattle.rota_core.specs.SumsBelow.{sum_below}
use Rattle.rota_certificate.specs.Plans.{plan_from}
use Rattle.rota_certificate.specs.Facts.{charges_of_nurse}
use Rattle.rota_certificate.proofs.counted.charges_of_all.Given as goal

abbrev pub invariant-loop-nurse : goal.invariant-loop-nurse
invariant-loop-nurse l = record {
  sum : l.sum ≡ sum_below l.nurse (charges_of_nurse l.kind (plan_from l.weeks l.rosters));
  small : l.sum ≤ l.nurse * 54525120;
}
