use Rattle.std.proofs.Common.{◌≡◌, ℕ, ◌∙◌, ap, sym, arith}
use Rattle.std.proofs.lemmas.Bool.{eqb-true}
use Rattle.rota_core.specs.Sizes.{Numbers}
use Rattle.rota_core.specs.SumsBelow.{sum_below}
use Rattle.rota_certificate.specs.Plans.{plan_from}
use Rattle.rota_certificate.specs.Facts.{charges_of_nurse, nurses_of}
use Rattle.rota_certificate.proofs.CountedPlans.{first-numbers, none-of-all, nurses-of}
use Rattle.rota_certificate.proofs.counted.charges_of_all.Goals as goal

pub returns-then-is_empty : goal.returns-then-is_empty
returns-then-is_empty c = record {
  count = none-of-all c.args.kind c.args.weeks.now c.args.rosters.now (eqb-true _ 0 (sym c.is_empty.ensures ∙ c.if-is_empty.true));
}

pub charges_of_nurse-sum-requires-clause-nurse_in : goal.charges_of_nurse-sum-requires-clause-nurse_in
charges_of_nurse-sum-requires-clause-nurse_in c =
    let numbers = first-numbers c.args.weeks.now c.index-weeks-0.result c.index-weeks-0.is (sym c.is_empty.ensures ∙ c.if-is_empty.false) in
    omega (arith, c.loop-nurse-test.true, c.nurses-nurse-end.ensures.count, ap (λ (all : Numbers). all.nurses) numbers)

pub returns : goal.returns
returns c =
    let weeks = c.args.weeks.now in
    let rosters = c.args.rosters.now in
    let numbers = first-numbers weeks c.index-weeks-0.result c.index-weeks-0.is (sym c.is_empty.ensures ∙ c.if-is_empty.false) in
    let all : c.loop-nurse.nurse ≡ nurses_of (plan_from weeks rosters) =
    omega (
      arith,
      c.loop-nurse-test.false,
      c.loop-nurse.auto.nurse-end,
      c.nurses-nurse-end.ensures.count,
      ap (λ (all : Numbers). all.nurses) numbers,
      nurses-of weeks rosters c.requires.plan.as_many,
    ) in
    record {
      count = c.loop-nurse.invariant.sum ∙ ap (λ (m : ℕ). sum_below m (charges_of_nurse c.args.kind (plan_from weeks rosters))) all;
    }
