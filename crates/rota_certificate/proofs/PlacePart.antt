-- The places of a week in a case: the bound of a place is at most the cost of the missing nurses and the prices of the nurses at the place.
use Rattle.std.proofs.Common.{◌≡◌, ℕ, ◌+◌, ◌-◌, ◌*◌, ◌<◌, ◌≤◌, ◌==◌, ◌&&◌, Bool, true, false, cond, ap, sym, ◌∙◌, inl, inr, arith, max, refl, [], ◌∷◌}
use Rattle.std.proofs.Common.{mul-le-mul_left, mul-le-mul_right}
use Rattle.std.specs.Prelude.{Some, nat_le, slice_get}
use Rattle.std.proofs.lemmas.Bool.{cases_Bool, cases_lt, eqb-true, lt-ltb, le-ltb}
use Rattle.std.proofs.lemmas.Bool.Decides.{nat_tests}
use Rattle.rota_core.specs.Sizes.{DAYS}
use Rattle.rota_core.specs.SumsBelow.{sum_below}
use Rattle.rota_core.specs.HardRules.{nurses_at, KeepsMinimum}
use Rattle.rota_core.specs.Roster.{Roster, cell}
use Rattle.rota_core.specs.Problem.{Problem}
use Rattle.rota_core.specs.Prices.{Prices}
use Rattle.rota_core.specs.declared.certificate.Fact.{Fact}
use Rattle.rota_core.specs.declared.certificate.Fact.TheVariants.{Charges, Choice, EvenShiftRuns, Nurses}
use Rattle.rota_core.specs.declared.certificate.NurseLimit.{NurseLimit}
use Rattle.rota_core.specs.declared.values.Demand.{Demand}
use Rattle.rota_rules.specs.OptimalCoverage.{optimum_cost, optimum_weight}
use Rattle.rota_certificate.specs.Facts.{Case, IsIn, is_fact}
use Rattle.rota_certificate.specs.NurseCosts.{paid}
use Rattle.rota_certificate.specs.PlaceBounds.{place_bound, place_cost}
use Rattle.rota_certificate.specs.PlaceCases.{case_demand, case_place_bound, case_place_bounds, is_at, lowered_by, lowered_optimal, raised_by, raised_minimum}
use Rattle.rota_certificate.specs.Plans.{Plan, PlannedWeek}
use Rattle.rota_certificate.proofs.Sums.{sum_below-same, sum-times, cube-same, cube-le, cube-plus, cube-times, cube-swap}

-- with a price below the weight, the optimal number of nurses is best, or the minimum if it is more
cheap_place : (weight price least best nurses : ℕ) → price < weight → least ≤ nurses →
    weight * (best - max least best) + price * max least best ≤ weight * (best - nurses) + price * nurses
cheap_place weight price least best nurses cheap enough =
    let none : best - max least best ≡ 0 = omega arith in
    elim (cases_lt nurses best) [
      | inl fewer ↦
          let all : max least best ≡ nurses + (best - nurses) = omega arith in
          let saved : price * (best - nurses) ≤ weight * (best - nurses) = mul-le-mul_right (best - nurses) (omega arith) in
          let spent : price * max least best ≡ price * nurses + price * (best - nurses) = ap (λ n. price * n) all ∙ omega arith in
          rw none (omega (arith, saved, spent))
      | inr more ↦
          let within : max least best ≤ nurses = omega arith in
          rw none (omega (arith, mul-le-mul_left price within))
    ]

-- with another price, the minimum of nurses is best
dear_place : (weight price least best nurses : ℕ) → weight ≤ price → least ≤ nurses →
    weight * (best - least) + price * least ≤ weight * (best - nurses) + price * nurses
dear_place weight price least best nurses dear enough =
    let more : nurses ≡ least + (nurses - least) = omega arith in
    let paid : weight * (nurses - least) ≤ price * (nurses - least) = mul-le-mul_right (nurses - least) dear in
    let spent : price * nurses ≡ price * least + price * (nurses - least) = ap (λ n. price * n) more ∙ omega arith in
    let fewer : best - least ≤ (best - nurses) + (nurses - least) = omega arith in
    let saved : weight * (best - least) ≤ weight * (best - nurses) + weight * (nurses - least) =
    omega (arith, mul-le-mul_left weight fewer) in
    omega (arith, paid, spent, saved)

pub place_bound-least : (unit : ℕ) (demand : Demand) (price nurses : ℕ) → demand.minimum ≤ nurses →
    place_bound unit demand price ≤ place_cost unit demand price nurses
place_bound-least unit demand price nurses enough =
    let weight : ℕ = unit * optimum_weight in
    elim (cases_lt price weight) [
      | inl below ↦ rw (lt-ltb price weight below) (cheap_place weight price demand.minimum demand.optimal nurses below enough)
      | inr above ↦ rw (le-ltb price weight above) (dear_place weight price demand.minimum demand.optimal nurses above enough)
    ]

pub both : (a b : Bool) → (a && b) ≡ true → (a ≡ true) × (b ≡ true)
both true true all = (refl, refl)
both true false all = absurd (cc all)
both false b all = absurd (cc all)

-- ---- a place of a planned week

module _ (plan : Plan) (w : ℕ) (planned : PlannedWeek) (here : slice_get plan w ≡ Some planned) (d s k : ℕ) where
  -- the number of nurses at the place
  abbrev nurses_here : ℕ
  nurses_here = nurses_at planned.week planned.roster d s k

  -- a fact about this place limits the number of its nurses
  fact-here : (limit : NurseLimit) → is_at limit w d s k ≡ true → is_fact plan (Nurses limit) ≡ nat_le nurses_here limit.most
  fact-here limit at =
      let skill = both (limit.week == w && limit.day == d && limit.shift == s) (limit.skill == k) at in
      let shift = both (limit.week == w && limit.day == d) (limit.shift == s) skill.0 in
      let day = both (limit.week == w) (limit.day == d) shift.0 in
      rw (eqb-true limit.week w day.0, eqb-true limit.day d day.1, eqb-true limit.shift s shift.1, eqb-true limit.skill k skill.1, here) refl

  raised-step : (fact : Fact) (holds : Bool) (minimum : ℕ) → is_fact plan fact ≡ holds → minimum ≤ nurses_here →
      raised_by fact holds w d s k minimum ≤ nurses_here
  raised-step (Nurses limit) false minimum meets enough =
      elim (cases_Bool (is_at limit w d s k)) [
        | inl at ↦
            let more : nat_le nurses_here limit.most ≡ false = sym (fact-here limit at) ∙ meets in
            rw at (grind (arith, nat_tests))
        | inr other ↦ rw other enough
      ]
  raised-step (Nurses limit) true minimum meets enough = enough
  raised-step (Choice one) holds minimum meets enough = enough
  raised-step (Charges limit) holds minimum meets enough = enough
  raised-step EvenShiftRuns holds minimum meets enough = enough

  -- the place has enough nurses for its minimum in the case
  raised-within : (case : Case) (minimum : ℕ) → IsIn plan case → minimum ≤ nurses_here → raised_minimum case w d s k minimum ≤ nurses_here
  unfolding raised_minimum
  raised-within [] minimum is_in enough = enough
  raised-within (condition ∷ case) minimum is_in enough =
      raised-within case (raised_by condition.fact condition.holds w d s k minimum) is_in.1
      (raised-step condition.fact condition.holds minimum is_in.0 enough)

  -- the shortage below a lowered optimal number, and the number by which it is lowered, are together at most the whole shortage
  abbrev IsLowered : (optimal lowered : ℕ) → Type 0
  IsLowered optimal lowered = (lowered - nurses_here) + (optimal - lowered) ≤ optimal - nurses_here

  lowered-step : (fact : Fact) (holds : Bool) (optimal lowered : ℕ) → is_fact plan fact ≡ holds → IsLowered optimal lowered →
      IsLowered optimal (lowered_by fact holds w d s k lowered)
  lowered-step (Nurses limit) true optimal lowered meets is_lowered =
      elim (cases_Bool (is_at limit w d s k)) [
        | inl at ↦
            let most : nat_le nurses_here limit.most ≡ true = sym (fact-here limit at) ∙ meets in
            let few : nurses_here ≤ limit.most = grind (arith, nat_tests) in
            rw at (omega (arith, few, is_lowered))
        | inr other ↦ rw other is_lowered
      ]
  lowered-step (Nurses limit) false optimal lowered meets is_lowered = is_lowered
  lowered-step (Choice one) holds optimal lowered meets is_lowered = is_lowered
  lowered-step (Charges limit) holds optimal lowered meets is_lowered = is_lowered
  lowered-step EvenShiftRuns holds optimal lowered meets is_lowered = is_lowered

  lowered-within : (case : Case) (optimal lowered : ℕ) → IsIn plan case → IsLowered optimal lowered →
      IsLowered optimal (lowered_optimal case w d s k lowered)
  unfolding lowered_optimal
  lowered-within [] optimal lowered is_in is_lowered = is_lowered
  lowered-within (condition ∷ case) optimal lowered is_in is_lowered =
      lowered-within case optimal (lowered_by condition.fact condition.holds w d s k lowered) is_in.1
      (lowered-step condition.fact condition.holds optimal lowered is_in.0 is_lowered)

  pub case_place_bound-within : (unit price : ℕ) (case : Case) (demand : Demand) → IsIn plan case → demand.minimum ≤ nurses_here →
      case_place_bound unit case w d s k demand price ≤ place_cost unit demand price nurses_here
  case_place_bound-within unit price case demand is_in enough =
      let least = place_bound-least unit (case_demand case w d s k demand) price nurses_here (raised-within case demand.minimum is_in enough) in
      let missing = mul-le-mul_left (unit * optimum_weight) (lowered-within case demand.optimal demand.optimal is_in (omega arith)) in
      omega (arith, least, missing)

once : (price : ℕ) (has : Bool) → price * cond has 1 0 ≡ cond has price 0
once price true = omega arith
once price false = omega arith

-- ---- all places of a planned week

module _ (plan : Plan) (w : ℕ) (planned : PlannedWeek) (here : slice_get plan w ≡ Some planned) (prices : Prices) where
  abbrev week : Problem
  week = planned.week

  abbrev roster : Roster
  roster = planned.roster

  -- the price of the nurse's cell at the place, if she has it
  abbrev price_at : (nurse day shift skill : ℕ) → ℕ
  price_at n d s k = cond (roster (cell n d s k)) (prices d s k) 0

  priced : (d s k : ℕ) → prices d s k * nurses_at week roster d s k ≡ sum_below week.nurses (λ n. price_at n d s k)
  priced d s k =
      sym (sum-times week.nurses (prices d s k) (λ n. cond (roster (cell n d s k)) 1 0)) ∙
      sum_below-same week.nurses _ _ (λ n _. once (prices d s k) (roster (cell n d s k)))

  pub case_place_bounds-within : (unit : ℕ) (case : Case) → IsIn plan case → KeepsMinimum week roster →
      case_place_bounds unit case w week prices ≤ unit * optimum_cost week roster + sum_below week.nurses (paid week prices roster)
  case_place_bounds-within unit case is_in enough =
      let each = cube-le DAYS week.shifts week.skills (λ d s k. case_place_bound unit case w d s k (week.demand d s k) (prices d s k))
      (λ d s k. place_cost unit (week.demand d s k) (prices d s k) (nurses_at week roster d s k))
      (λ d s k d_in s_in k_in. case_place_bound-within plan w planned here d s k unit (prices d s k) case (week.demand d s k) is_in (enough d s k d_in s_in k_in)) in
      let parts = cube-plus DAYS week.shifts week.skills
      (λ d s k. unit * optimum_weight * ((week.demand d s k).optimal - nurses_at week roster d s k))
      (λ d s k. prices d s k * nurses_at week roster d s k) in
      let missing = cube-times DAYS week.shifts week.skills (unit * optimum_weight) (λ d s k. (week.demand d s k).optimal - nurses_at week roster d s k) in
      let by_place = cube-same DAYS week.shifts week.skills (λ d s k. prices d s k * nurses_at week roster d s k)
      (λ d s k. sum_below week.nurses (λ n. price_at n d s k)) (λ d s k _ _ _. priced d s k) in
      let by_nurse = cube-swap DAYS week.shifts week.skills week.nurses price_at in
      omega (arith, each, parts, missing, by_place, by_nurse)
