use Rattle.std.proofs.Common.{◌≡◌, ◌++◌, drop}
use Rattle.rota_certificate.specs.Tariffs.{surcharged}
use Rattle.rota_certificate.proofs.surcharges.with_surcharges.Given as goal

-- the conditions so far and the conditions that are left make all conditions
abbrev pub invariant-loop-index : goal.invariant-loop-index
invariant-loop-index l = l.charges.items ++ surcharged (drop l.index l.case) (drop l.index l.surcharges) ≡ surcharged l.case l.surcharges
