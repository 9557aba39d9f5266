use Rattle.std.proofs.Common.{ap, arith, nat_lt}
use Rattle.std.proofs.lemmas.Bool.{ltb-true}
use Rattle.rota_certificate.proofs.PeriodProofs.{have-no-plan}
use Rattle.rota_certificate.proofs.tree.no_plan_exists.Goals as goal

pub returns-clause-answer : goal.returns-clause-answer
returns-clause-answer c = ap (nat_lt 0) c.in_ok-least.ensures

pub returns-clause-sound : goal.returns-clause-sound
returns-clause-sound c =
    λ above.
    have-no-plan c.args.given.now c.args.certificate.now c.args.weeks.now c.requires
    (omega (arith, ltb-true 0 c.in_ok-least.least above, c.in_ok-least.ensures))
