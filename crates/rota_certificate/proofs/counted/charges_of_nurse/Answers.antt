use Rattle.std.proofs.Common.{◌+◌, ◌*◌, ◌<◌, ap, sym, arith, length, map}
use Rattle.std.proofs.lemmas.List.{length-map}
use Rattle.rota_core.specs.InstanceTables.{problem_of}
use Rattle.rota_core.specs.RosterTables.{set_of}
use Rattle.rota_core.specs.Sizes.{DAYS, Numbers}
use Rattle.rota_certificate.specs.CountedCharges.{numbers_in}
use Rattle.rota_certificate.proofs.CountedPlans.{counts-begin, counts-end, counts-next, drop-of, near-as, near-begin, numbers-of, some-weeks}
use Rattle.rota_certificate.proofs.Tables.{near-more}
use Rattle.rota_certificate.proofs.counted.charges_of_nurse.Goals as goal

pub loop-number-init : goal.loop-number-init
loop-number-init c =
    let weeks = c.args.weeks.now in
    let some : 0 < length weeks = some-weeks weeks c.args.nurse c.requires.nurse_in in
    record {
      counts = counts-begin c.args.kind weeks c.args.rosters.now c.args.nurse c.index-weeks-0.result c.past-past.result some c.index-weeks-0.is
          c.past-past.ensures.past c.requires.plan.keep;
      near = near-begin weeks c.index-weeks-0.result c.past-past.result some c.index-weeks-0.is c.requires.plan.period c.past-past.ensures.within;
      small = omega arith;
    }

pub charges_in_week-week-requires-clause-nurse_in : goal.charges_in_week-week-requires-clause-nurse_in
charges_in_week-week-requires-clause-nurse_in c =
    let numbers = numbers-of c.args.weeks.now c.loop-number.number c.index-weeks-number.result
    (omega (arith, c.loop-number-test.true, c.loop-number.auto.number-end)) c.index-weeks-number.is c.requires.plan.period in
    omega (arith, c.requires.nurse_in, ap (λ (all : Numbers). all.nurses) numbers)

pub charges_in_week-week-requires-clause-near : goal.charges_in_week-week-requires-clause-near
charges_in_week-week-requires-clause-near c =
    let weeks = c.args.weeks.now in
    let week = c.index-weeks-number.result in
    let inside : c.loop-number.number < length weeks = omega (arith, c.loop-number-test.true, c.loop-number.auto.number-end) in
    let numbers = numbers-of weeks c.loop-number.number week inside c.index-weeks-number.is c.requires.plan.period in
    near-more (problem_of week).shifts (DAYS * c.loop-number.number) 357 c.loop-number.past (omega (arith, inside, c.requires.plan.count))
    (near-as (numbers_in weeks) (problem_of week).numbers (DAYS * c.loop-number.number) c.loop-number.past (sym numbers) c.loop-number.invariant.near)

pub loop-number-preserved : goal.loop-number-preserved
loop-number-preserved c =
    let weeks = c.args.weeks.now in
    let rosters = c.args.rosters.now in
    let i = c.loop-number.number in
    let week = c.index-weeks-number.result in
    let roster = c.index-rosters-number.result in
    let left = c.charges_in_week-week.result.past in
    let inside : i < length weeks = omega (arith, c.loop-number-test.true, c.loop-number.auto.number-end) in
    let also : i < length rosters = omega (arith, inside, c.requires.plan.as_many) in
    let numbers = numbers-of weeks i week inside c.index-weeks-number.is c.requires.plan.period in
    let near = c.charges_in_week-week.ensures.near (DAYS * i)
    (near-as (numbers_in weeks) (problem_of week).numbers (DAYS * i) c.loop-number.past (sym numbers) c.loop-number.invariant.near) in
    record {
      counts = counts-next c.args.kind (map problem_of weeks) (map set_of rosters) c.args.nurse i c.loop-number.sum c.loop-number.past
          c.loop-number.invariant.counts (problem_of week) (set_of roster) c.charges_in_week-week.result.charges left
          (drop-of problem_of weeks i week inside c.index-weeks-number.is) (drop-of set_of rosters i roster also c.index-rosters-number.is)
          (λ history here keeps.
          let is = c.charges_in_week-week.ensures.counted history here keeps in (is.charges, is.past));
      near = near-more (numbers_in weeks).shifts (DAYS * i + DAYS) (DAYS * (i + 1)) left (omega arith)
          (near-as (problem_of week).numbers (numbers_in weeks) (DAYS * i + DAYS) left numbers near);
      small = omega (arith, c.loop-number.invariant.small, c.charges_in_week-week.ensures.small);
    }

pub returns-clause-count : goal.returns-clause-count
returns-clause-count c =
    let weeks = c.args.weeks.now in
    counts-end c.args.kind (map problem_of weeks) (map set_of c.args.rosters.now) c.args.nurse c.loop-number.number c.loop-number.sum c.loop-number.past
    c.loop-number.invariant.counts
    (omega (arith, c.loop-number-test.false, c.loop-number.auto.number-end, length-map weeks problem_of))
