use Rattle.std.proofs.Common.{◌≡◌, ◌≤◌, ◌*◌, false}
use Rattle.rota_core.specs.SumsBelow.{sum_below}
use Rattle.rota_certificate.specs.LentLeaves.{weeks_of}
use Rattle.rota_certificate.specs.Minimums.{not_allowed}
use Rattle.rota_certificate.specs.NurseBounds.{nurse_bound}
use Rattle.rota_certificate.specs.Tariffs.{has_overdrawn, tariff_of}
use Rattle.rota_certificate.proofs.leaves.nurse_bounds.Given as goal

abbrev pub invariant-loop-nurse : goal.invariant-loop-nurse
invariant-loop-nurse l = record {
  none : has_overdrawn l.unit l.charges l.nurse ≡ false;
  sum : l.sum ≡ sum_below l.nurse (λ n. nurse_bound l.unit (tariff_of l.unit l.charges n) (weeks_of l.leaf) n);
  small : l.sum ≤ l.nurse * (3 * not_allowed);
}
