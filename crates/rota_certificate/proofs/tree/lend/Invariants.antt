use Rattle.std.proofs.Common.{take}
use Rattle.rota_certificate.specs.Evidence.{AreLent}
use Rattle.rota_certificate.proofs.tree.lend.Given as goal

-- the weeks so far are lent
abbrev pub invariant-loop-week : goal.invariant-loop-week
invariant-loop-week l = AreLent l.lent.items (take l.week l.weeks) (take l.week l.prices)
