use Rattle.std.proofs.Common.{sym, arith}
use Rattle.rota_core.specs.InstanceTables.{problem_of}
use Rattle.rota_core.specs.Roster.{cell}
use Rattle.rota_core.specs.RosterTables.{set_of}
use Rattle.rota_certificate.proofs.Sums.{any-at}
use Rattle.rota_certificate.proofs.counted.is_on.Goals as goal

pub returns-then-has : goal.returns-then-has
returns-then-has c =
    let problem = problem_of c.args.instance.now in
    sym (any-at problem.skills c.loop-skill.skill (λ k. set_of c.args.roster.now (cell c.args.nurse c.args.day c.args.shift k))
    (omega (arith, c.loop-skill-test.true, c.skills-skill-end.ensures.count)) (sym c.if-has.ensures))
