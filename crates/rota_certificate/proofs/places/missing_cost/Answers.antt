use Rattle.std.proofs.Common.{◌≡◌, ◌*◌, ◌∙◌, ap, sym, mul_assoc}
use Rattle.rota_rules.specs.OptimalCoverage.{optimum_weight}
use Rattle.rota_certificate.proofs.places.missing_cost.Goals as goal

pub returns-clause-cost : goal.returns-clause-cost
returns-clause-cost c =
    let points : c.from.result * c.from-2.result ≡ optimum_weight * c.args.missing = cc (c.from.ensures, c.from-2.ensures) in
    c.times.ensures.product ∙ ap (λ points. c.args.unit * points) points ∙ sym (mul_assoc c.args.unit optimum_weight c.args.missing)
