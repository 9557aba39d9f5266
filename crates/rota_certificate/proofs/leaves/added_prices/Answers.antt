use Rattle.std.proofs.Common.{arith, refl, ◌*◌, ◌≤◌, length}
use Rattle.rota_core.specs.Prices.{max_price}
use Rattle.rota_core.specs.Sizes.{DAYS}
use Rattle.rota_certificate.proofs.LeafSteps.{leaf-length, product-small}
use Rattle.rota_certificate.proofs.leaves.added_prices.Goals as goal

pub returns-clause-sum : goal.returns-clause-sum
returns-clause-sum c =
    rw (c.from-3.ensures, c.from.ensures, c.from-2.ensures, c.nurse_count-nurses.ensures.count, leaf-length c.args.leaf.now, ← c.leaf.view_is) refl

pub returns-clause-small : goal.returns-clause-small
returns-clause-small c =
    let weeks = c.leaf.inside.weeks.now in
    let few : c.from-3.result ≤ 1000 = omega (arith, c.from-3.ensures, c.nurse_count-nurses.ensures.small) in
    rw (c.from.ensures, c.from-2.ensures) (product-small c.from-3.result (length weeks) (DAYS * max_price) few c.leaf.invariant.count)
