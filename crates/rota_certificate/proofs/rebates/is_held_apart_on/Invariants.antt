use Rattle.std.proofs.Common.{◌≡◌, false}
use Rattle.rota_core.specs.SumsBelow.{any_below}
use Rattle.rota_core.specs.InstanceTables.{problem_of}
use Rattle.rota_certificate.specs.NurseBounds.{is_held_apart}
use Rattle.rota_certificate.proofs.rebates.is_held_apart_on.Given as goal

abbrev pub invariant-loop-skill : goal.invariant-loop-skill
invariant-loop-skill l =
    any_below l.skill (is_held_apart (problem_of l.instance) l.cell.nurse l.cell.day l.cell.shift l.cell.skill l.shift) ≡ false
