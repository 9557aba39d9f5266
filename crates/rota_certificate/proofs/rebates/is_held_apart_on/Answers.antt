use Rattle.std.proofs.Common.{sym, arith}
use Rattle.rota_core.specs.InstanceTables.{problem_of}
use Rattle.rota_certificate.specs.NurseBounds.{is_held_apart}
use Rattle.rota_certificate.proofs.Sums.{any-at}
use Rattle.rota_certificate.proofs.rebates.is_held_apart_on.Goals as goal

pub returns-then-is_held_apart : goal.returns-then-is_held_apart
returns-then-is_held_apart c =
    let problem = problem_of c.args.instance.now in
    let cell = c.args.cell in
    sym (any-at problem.skills c.loop-skill.skill (is_held_apart problem cell.nurse cell.day cell.shift cell.skill c.args.shift)
    (omega (arith, c.loop-skill-test.true, c.skills-skill-end.ensures.count)) (sym c.if-is_held_apart.ensures))
