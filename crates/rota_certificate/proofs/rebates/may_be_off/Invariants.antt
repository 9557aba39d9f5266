use Rattle.std.proofs.Common.{◌≡◌, false}
use Rattle.rota_core.specs.SumsBelow.{any_below}
use Rattle.rota_core.specs.HardRules.{is_on}
use Rattle.rota_core.specs.InstanceTables.{problem_of}
use Rattle.rota_certificate.proofs.rebates.may_be_off.Given as goal

abbrev pub invariant-loop-shift : goal.invariant-loop-shift
invariant-loop-shift l =
    let problem = problem_of l.instance in
    any_below l.shift (λ s. is_on problem problem.is_held l.nurse s l.day) ≡ false
