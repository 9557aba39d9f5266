use Rattle.std.proofs.Common.{sym, ap, not, arith}
use Rattle.rota_core.specs.HardRules.{is_on}
use Rattle.rota_core.specs.InstanceTables.{problem_of}
use Rattle.rota_certificate.proofs.Sums.{any-at}
use Rattle.rota_certificate.proofs.rebates.may_be_off.Goals as goal

pub returns-then-is_held_on : goal.returns-then-is_held_on
returns-then-is_held_on c =
    let problem = problem_of c.args.instance.now in
    ap not (sym (any-at problem.shifts c.loop-shift.shift (λ s. is_on problem problem.is_held c.args.nurse s c.args.day)
    (omega (arith, c.loop-shift-test.true, c.shifts-shift-end.ensures.count)) (sym c.if-is_held_on.ensures)))
