use Rattle.std.proofs.Common.{◌≡◌, ◌&&◌, ◌∙◌, Bool, not, true, false, refl, ap, sym, arith}
use Rattle.rota_core.specs.InstanceTables.{problem_of}
use Rattle.rota_core.specs.Roster.{cell}
use Rattle.rota_core.specs.SumsBelow.{any_below}
use Rattle.rota_certificate.specs.NurseBounds.{is_held_apart_on}
use Rattle.rota_certificate.proofs.Sums.{any-at}
use Rattle.rota_certificate.proofs.rebates.is_only_held.Goals as goal

not-alone : (held : Bool) → (held && not true) ≡ false
not-alone true = refl
not-alone false = refl

pub returns-then-is_held_apart_on : goal.returns-then-is_held_apart_on
returns-then-is_held_apart_on c =
    let problem = problem_of c.args.instance.now in
    let one = c.args.cell in
    let apart : any_below problem.shifts (is_held_apart_on problem one.nurse one.day one.shift one.skill) ≡ true =
    any-at problem.shifts c.loop-shift.shift (is_held_apart_on problem one.nurse one.day one.shift one.skill)
    (omega (arith, c.loop-shift-test.true, c.shifts-shift-end.ensures.count)) (sym c.if-is_held_apart_on.ensures) in
    let held = problem.is_held (cell one.nurse one.day one.shift one.skill) in
    sym (ap (λ (b : Bool). held && not b) apart ∙ not-alone held)
