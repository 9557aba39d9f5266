use Rattle.std.proofs.Common.{take}
use Rattle.rota_certificate.specs.Plans.{plan_from}
use Rattle.rota_certificate.specs.Facts.{IsIn}
use Rattle.rota_certificate.proofs.conditions.first_unmet.Given as goal

abbrev pub invariant-loop-index : goal.invariant-loop-index
invariant-loop-index l = IsIn (plan_from l.weeks l.rosters) (take l.index l.given)
