use Rattle.std.proofs.Common.{◌≡◌, false}
use Rattle.rota_core.specs.Roster.{cell}
use Rattle.rota_core.specs.RosterTables.{set_of}
use Rattle.rota_core.specs.SumsBelow.{any_below}
use Rattle.rota_certificate.proofs.counted.is_on.Given as goal

abbrev pub invariant-loop-skill : goal.invariant-loop-skill
invariant-loop-skill l = any_below l.skill (λ k. set_of l.roster (cell l.nurse l.day l.shift k)) ≡ false
