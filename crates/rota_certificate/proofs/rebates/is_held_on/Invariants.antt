use Rattle.std.proofs.Common.{◌≡◌, false}
use Rattle.rota_core.specs.SumsBelow.{any_below}
use Rattle.rota_core.specs.InstanceTables.{problem_of}
use Rattle.rota_core.specs.Roster.{cell}
use Rattle.rota_certificate.proofs.rebates.is_held_on.Given as goal

abbrev pub invariant-loop-skill : goal.invariant-loop-skill
invariant-loop-skill l = any_below l.skill (λ k. (problem_of l.instance).is_held (cell l.nurse l.day l.shift k)) ≡ false
