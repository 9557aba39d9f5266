use Rattle.std.proofs.Common.{◌≡◌, drop}
use Rattle.rota_certificate.specs.LentLeaves.{weeks_of}
use Rattle.rota_certificate.specs.NurseBounds.{charge_totals}
use Rattle.rota_certificate.proofs.stages.charge_totals.Given as goal

-- the weeks that are left give the answer for all weeks
abbrev pub invariant-loop-one : goal.invariant-loop-one
invariant-loop-one l = charge_totals (drop l.one-index (weeks_of l.leaf)) ≡ charge_totals (weeks_of l.leaf)
