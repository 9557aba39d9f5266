use Rattle.std.proofs.Common.{sym, arith}
use Rattle.rota_core.specs.HardRules.{is_on}
use Rattle.rota_core.specs.InstanceTables.{problem_of}
use Rattle.rota_core.specs.RosterTables.{set_of}
use Rattle.rota_certificate.proofs.FirstBelow.{first-at}
use Rattle.rota_certificate.proofs.counted.choice_on.Goals as goal

pub returns-then-is_on-clause-choice : goal.returns-then-is_on-clause-choice
returns-then-is_on-clause-choice c =
    let problem = problem_of c.args.instance.now in
    sym (first-at problem.shifts c.loop-shift.shift (λ s. is_on problem (set_of c.args.roster.now) c.args.nurse s c.args.day)
    (omega (arith, c.loop-shift-test.true, c.shifts-shift-end.ensures.count)) c.loop-shift.invariant (sym c.if-is_on.ensures))
