-- The surcharges of a leaf: for a plan of the case, they add at most the loss of the bound to the costs of the charges, and take off at
-- least its gain.
use Rattle.std.proofs.Common.{◌≡◌, ℕ, zero, suc, ◌+◌, ◌-◌, ◌*◌, ◌<◌, ◌≤◌, ◌==◌, ◌&&◌, ◌||◌, ◌⊎◌, Bool, true, false, cond, ap, sym, ◌∙◌, inl, inr, arith, refl, subst, List, [], ◌∷◌}
use Rattle.std.proofs.Common.{mul-le-mul_left}
use Rattle.std.specs.Prelude.{Option, Some, None, ◌%◌}
use Rattle.std.specs.List.{AllByRecursion}
use Rattle.std.specs.Option.{ForSome, option_map_or}
use Rattle.std.proofs.lemmas.Bool.{cases_Bool, eqb-true, eq-eqb, ne_eqb}
use Rattle.std.proofs.lemmas.Bool.Decides.{nat_tests}
use Rattle.std.proofs.lemmas.List.Sums.{sum_by-cons}
use Rattle.rota_core.specs.Certificates.{AreConditionsFor, IsFactFor}
use Rattle.rota_core.specs.Sizes.{Numbers}
use Rattle.rota_core.specs.SumsBelow.{any_below, sum_below}
use Rattle.rota_core.specs.declared.certificate.ChargeKind.{ChargeKind}
use Rattle.rota_core.specs.declared.certificate.ChargeKind.TheVariants.{Assignments, ShiftRuns, Weekends, WorkDays}
use Rattle.rota_core.specs.declared.certificate.ChargeLimit.{ChargeLimit}
use Rattle.rota_core.specs.declared.certificate.Fact.{Fact}
use Rattle.rota_core.specs.declared.certificate.Fact.TheVariants.{Charges, Choice, EvenShiftRuns, Nurses}
use Rattle.rota_certificate.specs.Facts.{Case, IsIn, charges_counted, charges_of_all, charges_of_nurse, is_fact, nurses_of}
use Rattle.rota_certificate.specs.Plans.{Plan}
use Rattle.rota_certificate.specs.Tariffs.{added, added_by, counts, forbidden_by, gained, gained_by, has_overdrawn, is_forbidden, is_kind, is_overdrawn}
use Rattle.rota_certificate.specs.Tariffs.{limit_of, lost, lost_by, over_limits, points_of, surcharged, taken, taken_by, weight}
use Rattle.rota_certificate.specs.declared.surcharges.Surcharged.{Surcharged}
use Rattle.rota_certificate.specs.declared.limits.Limit.{Limit}
use Rattle.rota_certificate.proofs.PlacePart.{both}
use Rattle.rota_certificate.proofs.Sums.{any-at, sum-at, sum-le, sum_below-plus, sum_below-same, sum-times, sum_below-zero, last_or_before}

-- the sum over the kinds has only the term of the limit's kind
of-kind : (kind : ChargeKind) (concerned : Bool) (m : ℕ) (c : ChargeKind → ℕ) →
    cond (is_kind kind ShiftRuns && concerned) m 0 * c ShiftRuns + cond (is_kind kind WorkDays && concerned) m 0 * c WorkDays +
    cond (is_kind kind Assignments && concerned) m 0 * c Assignments + cond (is_kind kind Weekends && concerned) m 0 * c Weekends ≡
    cond concerned m 0 * c kind
of-kind ShiftRuns concerned m c = omega arith
of-kind WorkDays concerned m c = omega arith
of-kind Assignments concerned m c = omega arith
of-kind Weekends concerned m c = omega arith

-- the sum over the nurses has only the terms of the nurses that a limit concerns
of-nurses : (nurse : Option ℕ) (N m : ℕ) (c : ℕ → ℕ) → ForSome nurse (λ j. j < N) →
    sum_below N (λ n. cond (option_map_or (λ one. one == n) nurse true) m 0 * c n) ≡ m * option_map_or c nurse (sum_below N c)
of-nurses None N m c inside = sum-times N m c
of-nurses (Some j) N m c inside =
    sum-at N j (λ n. cond (j == n) m 0 * c n) (inside j refl) (λ n below other. rw (ne_eqb j n (λ same. other (sym same))) (omega arith)) ∙
    ap (λ (b : Bool). cond b m 0 * c j) (eq-eqb j j refl)

same-kind : (one other : ChargeKind) → is_kind one other ≡ true → one ≡ other
same-kind ShiftRuns ShiftRuns same = refl
same-kind WorkDays WorkDays same = refl
same-kind Assignments Assignments same = refl
same-kind Weekends Weekends same = refl
same-kind ShiftRuns WorkDays same = absurd (cc same)
same-kind ShiftRuns Assignments same = absurd (cc same)
same-kind ShiftRuns Weekends same = absurd (cc same)
same-kind WorkDays ShiftRuns same = absurd (cc same)
same-kind WorkDays Assignments same = absurd (cc same)
same-kind WorkDays Weekends same = absurd (cc same)
same-kind Assignments ShiftRuns same = absurd (cc same)
same-kind Assignments WorkDays same = absurd (cc same)
same-kind Assignments Weekends same = absurd (cc same)
same-kind Weekends ShiftRuns same = absurd (cc same)
same-kind Weekends WorkDays same = absurd (cc same)
same-kind Weekends Assignments same = absurd (cc same)

-- one of two tests is passed
either : (a b : Bool) → (a || b) ≡ true → (a ≡ true) ⊎ (b ≡ true)
either true b one = inl refl
either false b one = inr one

-- neither test is passed
neither : (a b : Bool) → (a || b) ≡ false → (a ≡ false) × (b ≡ false)
neither false false none = (refl, refl)
neither false true none = absurd (cc none)
neither true b none = absurd (cc none)

-- a test that no number passes
none-at : (n i : ℕ) (test : ℕ → Bool) → i < n → any_below n test ≡ false → test i ≡ false
none-at n i test below none =
    elim (cases_Bool (test i)) [
      | inl passes ↦ absurd (cc (any-at n i test below passes, none))
      | inr fails ↦ fails
    ]

-- no kind passes a test, if none of the four does
none-of-kind : (kind : ChargeKind) (test : ChargeKind → Bool) → (test ShiftRuns || test WorkDays || test Assignments || test Weekends) ≡ false →
    test kind ≡ false
none-of-kind kind test none =
    let last = neither (test ShiftRuns || test WorkDays || test Assignments) (test Weekends) none in
    let third = neither (test ShiftRuns || test WorkDays) (test Assignments) last.0 in
    let first = neither (test ShiftRuns) (test WorkDays) third.0 in
    elim kind as (λ one. test one ≡ false) [ ShiftRuns ↦ first.0 | WorkDays ↦ first.1 | Assignments ↦ third.1 | Weekends ↦ last.1 ]

-- a term is at most the sum
sum-part : (n i : ℕ) (f : ℕ → ℕ) → i < n → f i ≤ sum_below n f
unfolding sum_below
sum-part zero i f below = absurd (omega arith)
sum-part (suc n) i f below =
    elim (last_or_before i n below) [
      | inl last ↦ omega (arith, ap f last)
      | inr before ↦ omega (arith, sum-part n i f before)
    ]

module _ (plan : Plan) where
  -- the number of nurses, and the number of charges of a kind of a nurse
  abbrev N : ℕ
  N = nurses_of plan

  abbrev c : ChargeKind → ℕ → ℕ
  c kind n = charges_of_nurse kind plan n

  -- ---- the terms of one condition

  -- the number that a function of limits gives for the nurse's charges of the kind
  abbrev term : (ChargeKind → ℕ → ℕ → Limit → ℕ) → (m : ℕ) → Option Limit → ChargeKind → ℕ → ℕ
  term f m limit kind n = option_map_or (f kind n m) limit 0

  -- these numbers, times the charges
  abbrev terms_of : (ChargeKind → ℕ → ℕ) → ℕ → ℕ
  terms_of f n = f ShiftRuns n * c ShiftRuns n + f WorkDays n * c WorkDays n + f Assignments n * c Assignments n + f Weekends n * c Weekends n

  abbrev pub all_terms : (ChargeKind → ℕ → ℕ) → ℕ
  all_terms f = sum_below N (terms_of f)

  limit-terms : (limit : ChargeLimit) (m : ℕ) → ForSome limit.nurse (λ n. n < N) →
      all_terms (λ kind n. cond (counts limit kind n) m 0) ≡ m * charges_counted limit plan
  limit-terms limit m inside =
      sum_below-same N _ (λ n. cond (option_map_or (λ one. one == n) limit.nurse true) m 0 * c limit.kind n)
      (λ n _. of-kind limit.kind (option_map_or (λ one. one == n) limit.nurse true) m (λ kind. c kind n)) ∙
      of-nurses limit.nurse N m (c limit.kind) inside

  no-terms : (f : ChargeKind → ℕ → ℕ) → ((kind : ChargeKind) (n : ℕ) → f kind n ≡ 0) → all_terms f ≡ 0
  no-terms f none =
      sum_below-zero N (terms_of f) (λ n _. omega (
        arith,
        ap (λ (x : ℕ). x * c ShiftRuns n) (none ShiftRuns n),
        ap (λ (x : ℕ). x * c WorkDays n) (none WorkDays n),
        ap (λ (x : ℕ). x * c Assignments n) (none Assignments n),
        ap (λ (x : ℕ). x * c Weekends n) (none Weekends n),
      ))

  module _ (numbers : Numbers) (weeks : ℕ) (count : numbers.nurses ≡ N) where
    few : (limit : ChargeLimit) → ForSome limit.nurse (λ n. n < numbers.nurses) → ForSome limit.nurse (λ n. n < N)
    few limit inside = subst (λ (most : ℕ). ForSome limit.nurse (λ n. n < most)) count inside

    added-step : (fact : Fact) (holds : Bool) (m : ℕ) → IsFactFor numbers weeks fact → is_fact plan fact ≡ holds →
        all_terms (term added_by m (limit_of fact holds)) ≤ option_map_or (lost_by m) (limit_of fact holds) 0
    added-step (Charges limit) true m is_for meets =
        let most : charges_counted limit plan ≤ limit.most = grind (arith, nat_tests) in
        omega (arith, limit-terms limit m (few limit is_for.nurse), mul-le-mul_left m most)
    added-step (Charges limit) false m is_for meets = omega (arith, no-terms (λ kind n. 0) (λ kind n. refl))
    added-step EvenShiftRuns true m is_for meets = omega (arith, no-terms (λ kind n. 0) (λ kind n. refl))
    added-step EvenShiftRuns false m is_for meets = omega (arith, no-terms (λ kind n. 0) (λ kind n. refl))
    added-step (Choice one) holds m is_for meets = omega (arith, no-terms (λ kind n. 0) (λ kind n. refl))
    added-step (Nurses limit) holds m is_for meets = omega (arith, no-terms (λ kind n. 0) (λ kind n. refl))

    taken-step : (fact : Fact) (holds : Bool) (m : ℕ) → IsFactFor numbers weeks fact → is_fact plan fact ≡ holds →
        option_map_or (gained_by m) (limit_of fact holds) 0 ≤ all_terms (term taken_by m (limit_of fact holds))
    taken-step (Charges limit) false m is_for meets =
        let more : limit.most + 1 ≤ charges_counted limit plan = grind (arith, nat_tests) in
        omega (arith, limit-terms limit m (few limit is_for.nurse), mul-le-mul_left m more)
    taken-step (Charges limit) true m is_for meets = omega arith
    taken-step EvenShiftRuns true m is_for meets = omega arith
    taken-step EvenShiftRuns false m is_for meets =
        let some : 1 ≤ charges_of_all ShiftRuns plan =
        elim (cases_Bool (charges_of_all ShiftRuns plan == 0)) [
          | inl none ↦ absurd (cc (ap (λ (x : ℕ). x % 2 == 0) (eqb-true (charges_of_all ShiftRuns plan) 0 none), meets))
          | inr other ↦ grind (arith, nat_tests)
        ] in
        omega (arith, limit-terms (record { kind = ShiftRuns; nurse = None; most = 0 }) m (λ j is. absurd (cc is)), mul-le-mul_left m some)
    taken-step (Choice one) holds m is_for meets = omega arith
    taken-step (Nurses limit) holds m is_for meets = omega arith

    -- ---- the terms of all conditions

    -- the plan meets the conditions, and their facts are for its weeks
    abbrev pub AreMet : List Surcharged → Type 0
    AreMet charges =
        AllByRecursion (λ one. IsFactFor numbers weeks one.condition.fact × (is_fact plan one.condition.fact ≡ one.condition.holds)) charges

    more-terms : (f : ChargeKind → ℕ → ℕ → Limit → ℕ) (one : Surcharged) (charges : List Surcharged) →
        all_terms (λ kind n. over_limits (f kind n) (one ∷ charges)) ≡
        all_terms (term f one.surcharge (limit_of one.condition.fact one.condition.holds)) + all_terms (λ kind n. over_limits (f kind n) charges)
    more-terms f one charges =
        let here : ChargeKind → ℕ → ℕ = term f one.surcharge (limit_of one.condition.fact one.condition.holds) in
        let later : ChargeKind → ℕ → ℕ = λ kind n. over_limits (f kind n) charges in
        let split : (kind : ChargeKind) (n : ℕ) → over_limits (f kind n) (one ∷ charges) ≡ here kind n + later kind n =
        λ kind n. sum_by-cons (λ (two : Surcharged). option_map_or (f kind n two.surcharge) (limit_of two.condition.fact two.condition.holds) 0) one charges in
        sum_below-same N _ (λ n. terms_of here n + terms_of later n)
        (λ n _. omega (
          arith,
          ap (λ (x : ℕ). x * c ShiftRuns n) (split ShiftRuns n),
          ap (λ (x : ℕ). x * c WorkDays n) (split WorkDays n),
          ap (λ (x : ℕ). x * c Assignments n) (split Assignments n),
          ap (λ (x : ℕ). x * c Weekends n) (split Weekends n),
        )) ∙
        sum_below-plus N (terms_of here) (terms_of later)

    pub added-within : (charges : List Surcharged) → AreMet charges → all_terms (added charges) ≤ lost charges
    added-within [] met = omega (arith, no-terms (λ kind n. 0) (λ kind n. refl))
    added-within (one ∷ charges) met =
        let here = added-step one.condition.fact one.condition.holds one.surcharge met.0.0 met.0.1 in
        let cons = sum_by-cons (λ (two : Surcharged). option_map_or (lost_by two.surcharge) (limit_of two.condition.fact two.condition.holds) 0) one charges in
        omega (arith, more-terms added_by one charges, here, added-within charges met.1, cons)

    pub taken-within : (charges : List Surcharged) → AreMet charges → gained charges ≤ all_terms (taken charges)
    taken-within [] met = omega arith
    taken-within (one ∷ charges) met =
        let here = taken-step one.condition.fact one.condition.holds one.surcharge met.0.0 met.0.1 in
        let cons = sum_by-cons (λ (two : Surcharged). option_map_or (gained_by two.surcharge) (limit_of two.condition.fact two.condition.holds) 0) one charges in
        omega (arith, more-terms taken_by one charges, here, taken-within charges met.1, cons)

    -- ---- forbidden charges

    none-of-limit : (nurse : Option ℕ) (kind : ChargeKind) (n : ℕ) → n < N → option_map_or (λ one. one == n) nurse true ≡ true →
        option_map_or (c kind) nurse (sum_below N (c kind)) ≡ 0 → c kind n ≡ 0
    none-of-limit None kind n n_in is_here none = omega (arith, sum-part N n (c kind) n_in, none)
    none-of-limit (Some j) kind n n_in is_here none = ap (c kind) (sym (eqb-true j n is_here)) ∙ none

    counted-none : (limit : ChargeLimit) (kind : ChargeKind) (n : ℕ) → n < N → counts limit kind n ≡ true → charges_counted limit plan ≡ 0 → c kind n ≡ 0
    counted-none limit kind n n_in is_counted none =
        let parts = both (is_kind limit.kind kind) (option_map_or (λ one. one == n) limit.nurse true) is_counted in
        subst (λ (other : ChargeKind). c other n ≡ 0) (same-kind limit.kind kind parts.0) (none-of-limit limit.nurse limit.kind n n_in parts.1 none)

    forbidden-step : (fact : Fact) (holds : Bool) (kind : ChargeKind) (n : ℕ) → n < N → is_fact plan fact ≡ holds →
        option_map_or (forbidden_by kind n) (limit_of fact holds) false ≡ true → c kind n ≡ 0
    forbidden-step (Charges limit) true kind n n_in meets forbids =
        let parts = both (counts limit kind n) (limit.most == 0) forbids in
        let zero_most : limit.most ≡ 0 = eqb-true limit.most 0 parts.1 in
        let most : charges_counted limit plan ≤ limit.most = grind (arith, nat_tests) in
        counted-none limit kind n n_in parts.0 (omega (arith, most, zero_most))
    forbidden-step (Charges limit) false kind n n_in meets forbids = absurd (cc forbids)
    forbidden-step EvenShiftRuns true kind n n_in meets forbids = absurd (cc forbids)
    forbidden-step EvenShiftRuns false kind n n_in meets forbids = absurd (cc forbids)
    forbidden-step (Choice one) holds kind n n_in meets forbids = absurd (cc forbids)
    forbidden-step (Nurses limit) holds kind n n_in meets forbids = absurd (cc forbids)

    forbidden-none : (charges : List Surcharged) → AreMet charges → (kind : ChargeKind) (n : ℕ) → n < N → is_forbidden charges kind n ≡ true →
        c kind n ≡ 0
    forbidden-none [] met kind n n_in forbids = absurd (cc forbids)
    forbidden-none (one ∷ charges) met kind n n_in forbids =
        elim (either (option_map_or (forbidden_by kind n) (limit_of one.condition.fact one.condition.holds) false) (is_forbidden charges kind n) forbids) [
          | inl here ↦ forbidden-step one.condition.fact one.condition.holds kind n n_in met.0.1 here
          | inr later ↦ forbidden-none charges met.1 kind n n_in later
        ]

    -- ---- the weights

    weight-within : (charges : List Surcharged) → AreMet charges → (unit : ℕ) (kind : ChargeKind) (n : ℕ) → n < N →
        is_overdrawn unit charges kind n ≡ false →
        weight unit charges kind n * c kind n + taken charges kind n * c kind n ≤ unit * points_of kind * c kind n + added charges kind n * c kind n
    weight-within charges met unit kind n n_in within =
        let base : ℕ = unit * points_of kind + added charges kind n in
        let fits : taken charges kind n ≤ base = grind (arith, nat_tests) in
        let whole : base ≡ (base - taken charges kind n) + taken charges kind n = omega (arith, fits) in
        let product = ap (λ (x : ℕ). x * c kind n) whole in
        elim (cases_Bool (is_forbidden charges kind n)) [
          | inl forbids ↦
              let none = forbidden-none charges met kind n n_in forbids in
              rw none (omega arith)
          | inr allows ↦ rw allows (omega (arith, product))
        ]

    -- no weight is overdrawn
    within-each : (charges : List Surcharged) (unit nurses n : ℕ) → n < nurses → has_overdrawn unit charges nurses ≡ false → (kind : ChargeKind) →
        is_overdrawn unit charges kind n ≡ false
    within-each charges unit nurses n n_in none kind =
        let here : (is_overdrawn unit charges ShiftRuns n || is_overdrawn unit charges WorkDays n || is_overdrawn unit charges Assignments n ||
        is_overdrawn unit charges Weekends n) ≡ false = none-at nurses n _ n_in none in
        none-of-kind kind (λ one. is_overdrawn unit charges one n) here

    -- the costs of all charges by the leaf's tariffs, with the sums taken off, are at most the costs by the rules, with the sums added
    pub weights-within : (charges : List Surcharged) → AreMet charges → (unit : ℕ) → has_overdrawn unit charges N ≡ false →
        all_terms (weight unit charges) + all_terms (taken charges) ≤ all_terms (λ kind n. unit * points_of kind) + all_terms (added charges)
    weights-within charges met unit within =
        let each = sum-le N (λ n. terms_of (weight unit charges) n + terms_of (taken charges) n)
        (λ n. terms_of (λ kind m. unit * points_of kind) n + terms_of (added charges) n)
        (λ n n_in.
        let kind-within : (kind : ChargeKind) →
        weight unit charges kind n * c kind n + taken charges kind n * c kind n ≤ unit * points_of kind * c kind n + added charges kind n * c kind n =
        λ kind. weight-within charges met unit kind n n_in (within-each charges unit N n n_in within kind) in
        omega (arith, kind-within ShiftRuns, kind-within WorkDays, kind-within Assignments, kind-within Weekends)) in
        let left = sum_below-plus N (terms_of (weight unit charges)) (terms_of (taken charges)) in
        let right = sum_below-plus N (terms_of (λ kind m. unit * points_of kind)) (terms_of (added charges)) in
        omega (arith, each, left, right)

    -- the costs of all charges by the leaf's tariffs, with the gain of the bound, are at most the costs by the rules, with its loss
    pub surcharges-within : (charges : List Surcharged) → AreMet charges → (unit : ℕ) → has_overdrawn unit charges N ≡ false →
        all_terms (weight unit charges) + gained charges ≤ all_terms (λ kind n. unit * points_of kind) + lost charges
    surcharges-within charges met unit within =
        omega (arith, weights-within charges met unit within, added-within charges met, taken-within charges met)

    -- the conditions of a case that the plan is in are met, with any surcharges
    pub case-met : (case : Case) (surcharges : List ℕ) → AreConditionsFor numbers weeks case → IsIn plan case → AreMet (surcharged case surcharges)
    unfolding surcharged
    case-met [] surcharges are_for is_in = tt
    case-met (condition ∷ case) [] are_for is_in = ((are_for.0, is_in.0), case-met case [] are_for.1 is_in.1)
    case-met (condition ∷ case) (m ∷ surcharges) are_for is_in = ((are_for.0, is_in.0), case-met case surcharges are_for.1 is_in.1)
