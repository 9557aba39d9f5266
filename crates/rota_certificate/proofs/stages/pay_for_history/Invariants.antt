use Rattle.std.proofs.Common.{◌≡◌, drop}
use Rattle.rota_certificate.specs.LentLeaves.{weeks_of}
use Rattle.rota_certificate.specs.NurseBounds.{pay_for_history}
use Rattle.rota_certificate.proofs.stages.pay_for_history.Given as goal

-- the weeks that are left give the answer for all weeks
abbrev pub invariant-loop-one : goal.invariant-loop-one
invariant-loop-one l = pay_for_history (drop l.one-index (weeks_of l.leaf)) ≡ pay_for_history (weeks_of l.leaf)
