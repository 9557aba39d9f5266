use Rattle.std.proofs.Common.{◌≡◌, false}
use Rattle.rota_core.specs.SumsBelow.{any_below}
use Rattle.rota_core.specs.InstanceTables.{problem_of}
use Rattle.rota_certificate.specs.NurseBounds.{is_held_apart_on}
use Rattle.rota_certificate.proofs.rebates.is_only_held.Given as goal

abbrev pub invariant-loop-shift : goal.invariant-loop-shift
invariant-loop-shift l =
    any_below l.shift (is_held_apart_on (problem_of l.instance) l.cell.nurse l.cell.day l.cell.shift l.cell.skill) ≡ false
