use Rattle.std.proofs.Common.{◌≡◌, drop}
use Rattle.rota_certificate.specs.LeafBounds.{may_choose}
use Rattle.rota_certificate.proofs.allowed.may_choose.Given as goal

-- the case allows the choice if the conditions that are left do
abbrev pub invariant-loop-condition : goal.invariant-loop-condition
invariant-loop-condition l =
    may_choose (drop l.condition-index l.case) l.week l.nurse l.day l.choice ≡ may_choose l.case l.week l.nurse l.day l.choice
