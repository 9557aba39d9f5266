use Rattle.std.proofs.Common.{rules, ◌≡◌, ◌∙◌, ◌+◌, ◌*◌, ◌-◌, ap, refl, length, None, arith}
use Rattle.std.proofs.lemmas.List.{length-replicate}
use Rattle.rota_core.specs.declared.values.Demand.{Demand}
use Rattle.rota_layout.specs.DayRows.{DayRows, no_day_rows}
use Rattle.rota_read.specs.WeekLayout.{max_rows}
use Rattle.rota_layout.specs.Reading.{read_layout}
use Rattle.rota_layout.proofs.ReadingLaws.{front_fails}
use Rattle.rota_read.proofs.RequirementSteps.{next_requirement, requirement_fails, no_requirement}
use Rattle.rota_read.proofs.requirements.requirement_rows.Goals as goal

pub loop-init : goal.loop-init
loop-init c =
    let none : c.in_ok-rows.rows.items ≡ no_day_rows c.args.scenario.now = search rules in
    let all : max_rows c.args.scenario.now - 0 ≡ max_rows c.args.scenario.now = omega arith in
    let pairs = length c.args.scenario.now.shifts * length c.args.scenario.now.skills in
    record { read = rw (all, none) refl; rows = ap (λ (rows : DayRows Demand). length rows) none ∙ length-replicate pairs None }

pub returns-in_err-shift : goal.returns-in_err-shift
returns-in_err-shift c =
    let maximum : c.from.result * c.from-2.result + 1 ≡ max_rows c.args.scenario.now =
    rw (c.from.ensures, c.from-2.ensures, c.shifts.ensures.count, c.skills.ensures.count) refl in
    let more = rw maximum at c.loop-test.true in
    let fails =
    requirement_fails c.args.scenario.now c.loop.rows.items (max_rows c.args.scenario.now) c.loop.counter c.loop.cursor
    c.in_err-shift.field-0.0 more c.in_err-shift.ensures.read in
    rw (← c.loop.invariant.read) (grind (arith, fails))

pub returns-in_err-requirement : goal.returns-in_err-requirement
unfolding read_layout
returns-in_err-requirement c =
    let maximum : c.from.result * c.from-2.result + 1 ≡ max_rows c.args.scenario.now =
    rw (c.from.ensures, c.from-2.ensures, c.shifts.ensures.count, c.skills.ensures.count) refl in
    let more = rw maximum at c.loop-test.true in
    let row = next_requirement c.args.scenario.now c.loop.rows.items (max_rows c.args.scenario.now) c.loop.counter c.loop.cursor more in
    let shift = rw c.in-Some.is at c.in_ok-shift.ensures.read in
    rw (← c.loop.invariant.read, row, shift) (grind (arith, front_fails, c.in_err-requirement.ensures.read))

pub returns-in_default : goal.returns-in_default
unfolding read_layout
returns-in_default c =
    let maximum : c.from.result * c.from-2.result + 1 ≡ max_rows c.args.scenario.now =
    rw (c.from.ensures, c.from-2.ensures, c.shifts.ensures.count, c.skills.ensures.count) refl in
    let more = rw maximum at c.loop-test.true in
    let row = next_requirement c.args.scenario.now c.loop.rows.items (max_rows c.args.scenario.now) c.loop.counter c.loop.cursor more in
    let word = rw c.in_default.is at c.in_ok-shift.ensures.read in
    rw (← c.loop.invariant.read, row, word) refl

pub loop-preserved : goal.loop-preserved
unfolding read_layout
loop-preserved c =
    let maximum : c.from.result * c.from-2.result + 1 ≡ max_rows c.args.scenario.now =
    rw (c.from.ensures, c.from-2.ensures, c.shifts.ensures.count, c.skills.ensures.count) refl in
    let more = rw maximum at c.loop-test.true in
    let row = next_requirement c.args.scenario.now c.loop.rows.items (max_rows c.args.scenario.now) c.loop.counter c.loop.cursor more in
    let shift = rw c.in-Some.is at c.in_ok-shift.ensures.read in
    record {
      read = rw (← c.loop.invariant.read, row, shift, c.in_ok-requirement.ensures.read) refl;
      rows = c.requirement.ensures.rows ∙ c.loop.invariant.rows;
    }

pub returns : goal.returns
returns c =
    let maximum : c.from.result * c.from-2.result + 1 ≡ max_rows c.args.scenario.now =
    rw (c.from.ensures, c.from-2.ensures, c.shifts.ensures.count, c.skills.ensures.count) refl in
    let none = no_requirement c.args.scenario.now c.loop.rows.items (max_rows c.args.scenario.now) c.loop.counter c.loop.cursor in
    rw (← c.loop.invariant.read) (none (rw maximum at c.loop-test.false))
