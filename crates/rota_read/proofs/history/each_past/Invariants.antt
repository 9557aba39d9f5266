use Rattle.std.proofs.Common.{◌≡◌, map, take, unwrap_or}
use Rattle.rota_core.specs.Defaults.{no_past}
use Rattle.rota_read.proofs.history.each_past.Given as goal

abbrev pub invariant-loop-past : goal.invariant-loop-past
invariant-loop-past l = l.each.items ≡ map (λ past. unwrap_or past no_past) (take l.past-index l.pasts)
