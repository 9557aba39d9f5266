use Rattle.std.proofs.Common.{◌≡◌, ◌<◌, ap, arith, ◌∙◌, ℕ}
use Rattle.rota_core.specs.SumsBelow.{sum_below}
use Rattle.rota_certificate.specs.LeafBounds.{nurse_count}
use Rattle.rota_certificate.specs.LentLeaves.{weeks_of}
use Rattle.rota_certificate.specs.NurseBounds.{nurse_bound}
use Rattle.rota_certificate.specs.Tariffs.{has_overdrawn_weight, tariff_of}
use Rattle.rota_certificate.proofs.LeafSteps.{none-passes}
use Rattle.rota_certificate.proofs.Sums.{any-at}
use Rattle.rota_certificate.proofs.leaves.nurse_bounds.Goals as goal

pub returns-in-None-clause-none : goal.returns-in-None-clause-none
returns-in-None-clause-none c = λ _.
    let unit = c.args.unit in
    let charges = c.args.charges.now in
    let n = c.loop-nurse.nurse in
    let inside : n < nurse_count (weeks_of c.args.leaf.now) = omega (arith, c.loop-nurse-test.true, c.nurse_count-nurse-end.ensures.count) in
    any-at (nurse_count (weeks_of c.args.leaf.now)) n (has_overdrawn_weight unit charges) inside
    (none-passes (has_overdrawn_weight unit charges n) (tariff_of unit charges n) c.tariff_of.result c.tariff_of.ensures c.in-None.is)

pub returns-clause-bounds : goal.returns-clause-bounds
returns-clause-bounds c =
    let n = c.loop-nurse.nurse in
    let end : n ≡ nurse_count (weeks_of c.args.leaf.now) =
    omega (arith, c.loop-nurse-test.false, c.nurse_count-nurse-end.ensures.count, c.loop-nurse.auto.nurse-end) in
    c.loop-nurse.invariant.sum ∙
    ap (λ (m : ℕ). sum_below m (λ i. nurse_bound c.args.unit (tariff_of c.args.unit c.args.charges.now i) (weeks_of c.args.leaf.now) i)) end
