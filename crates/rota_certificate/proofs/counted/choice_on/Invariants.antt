use Rattle.std.proofs.Common.{◌≡◌}
use Rattle.std.specs.Prelude.{None}
use Rattle.rota_core.specs.HardRules.{is_on}
use Rattle.rota_core.specs.InstanceTables.{problem_of}
use Rattle.rota_core.specs.RosterTables.{set_of}
use Rattle.rota_certificate.specs.FirstBelow.{first_below}
use Rattle.rota_certificate.proofs.counted.choice_on.Given as goal

abbrev pub invariant-loop-shift : goal.invariant-loop-shift
invariant-loop-shift l = first_below l.shift (λ s. is_on (problem_of l.instance) (set_of l.roster) l.nurse s l.day) ≡ None
