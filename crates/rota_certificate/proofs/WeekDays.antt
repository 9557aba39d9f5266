-- The days of a nurse's week: the minimum of a week is at most the cost of her days, with the growth of her totals above the maximums.
use Rattle.std.proofs.Common.{◌≡◌, ℕ, zero, suc, ◌+◌, ◌-◌, ◌*◌, ◌<◌, ◌≤◌, Bool, true, false, cond, refl, ap, ◌∙◌, arith, add-one}
use Rattle.std.proofs.Common.{◌||◌, ◌&&◌, ◌==◌, sym}
use Rattle.std.proofs.lemmas.Bool.{cond-true, eq-eqb}
use Rattle.std.proofs.lemmas.Bool.Decides.{nat_tests}
use Rattle.std.specs.Option.{option_map_or}
use Rattle.std.specs.Prelude.{Option, Some, None, is_some, nat_le, nat_lt}
use Rattle.rota_core.specs.Sizes.{DAYS}
use Rattle.rota_core.specs.SumsBelow.{sum_below}
use Rattle.rota_core.specs.HardRules.{is_off, is_on, works, KeepsHardRules}
use Rattle.rota_core.specs.Roster.{Roster}
use Rattle.rota_core.specs.Problem.{Problem}
use Rattle.rota_core.specs.declared.certificate.ChargeKind.TheVariants.{ShiftRuns, WorkDays}
use Rattle.rota_core.specs.declared.values.Contract.{Contract}
use Rattle.rota_core.specs.declared.values.Past.{Past}
use Rattle.rota_core.specs.declared.values.Span.{Span}
use Rattle.rota_core.specs.Successions.{is_forbidden_after}
use Rattle.rota_rules.specs.Runs.{day_cost}
use Rattle.rota_rules.specs.Runs.{is_over, run_cost, run_over, run_under, run_length}
use Rattle.rota_rules.specs.ConsecutiveAssignments.{history_on, work_run_weight}
use Rattle.rota_rules.specs.ConsecutiveDaysOff.{off_run_weight}
use Rattle.rota_rules.specs.ShiftOffRequests.{request_weight}
use Rattle.rota_certificate.specs.DayCharges.{assignment_above, choice_cost, is_shift, over_charge, past_after, run_charge, run_on, shift_charges, under_charge}
use Rattle.rota_certificate.specs.DayCharges.{totals_cost, weekend_above, weekend_charge, weighted}
use Rattle.rota_certificate.specs.Facts.{charges_in_week}
use Rattle.rota_certificate.specs.NurseBounds.{LeafWeek, Terms, least_days}
use Rattle.rota_certificate.specs.NurseCosts.{AllowsChoices, fixed_on_days, paid, weekend_cost}
use Rattle.rota_certificate.specs.Plans.{history_after, sunday_shift}
use Rattle.rota_certificate.specs.declared.tariffs.Tariff.{Tariff}
use Rattle.rota_core.specs.Prices.{Prices, ArePrices, max_price}
use Rattle.rota_certificate.proofs.Choices.{goes}
use Rattle.rota_certificate.proofs.DaySteps.{Chooses, Follows, day_cost-is, fixed_on, fixed-same, off_run_before, over_on, over-same, paid_on}
use Rattle.rota_certificate.proofs.DaySteps.{requested_on, shift_run_before, shifts_on, shifts-same, weekends_on, work_run_before, worked_before}
use Rattle.rota_certificate.proofs.FirstBelow.{first-inside}
use Rattle.rota_certificate.proofs.LeastCosts.{least_days-end, least_days-step}
use Rattle.rota_certificate.proofs.Sums.{sum_below-same, sum-swap}

-- ---- the costs of the week are the costs of its days

by_day : (has : ℕ → Bool) (history : ℕ) (limits : Span) → run_cost has history limits ≡ sum_below DAYS (day_cost has history limits)
unfolding run_over run_under sum_below
by_day has history limits = omega arith

-- the cost of the runs is the sum of the charges of the days
run_cost-is : (has : ℕ → Bool) (history : ℕ) (limits : Span) →
    run_cost has history limits ≡ sum_below DAYS (λ d. run_charge (run_length has history d) (has d) limits)
run_cost-is has history limits =
    by_day has history limits ∙ sum_below-same DAYS (day_cost has history limits) _ (λ d _. day_cost-is has history limits d)

over_by_day : (has : ℕ → Bool) (history maximum : ℕ) →
    run_over has history maximum ≡ sum_below DAYS (λ d. cond (is_over has history maximum d) 1 0)
unfolding run_over sum_below
over_by_day has history maximum = omega arith

over-charged : (has : Bool) (run : ℕ) (limits : Span) →
    cond (nat_lt limits.max (cond has (run + 1) 0)) 1 0 ≡ over_charge run has limits
over-charged true run limits = refl
over-charged false run limits = grind (arith, nat_tests)

run_over-is : (has : ℕ → Bool) (history : ℕ) (limits : Span) →
    run_over has history limits.max ≡ sum_below DAYS (λ d. over_charge (run_length has history d) (has d) limits)
run_over-is has history limits =
    over_by_day has history limits.max ∙
    sum_below-same DAYS (λ d. cond (is_over has history limits.max d) 1 0) _
    (λ d _. rw (add-one d) (over-charged (has d) (run_length has history d) limits))

run_under-is : (has : ℕ → Bool) (history : ℕ) (limits : Span) →
    run_under has history limits.min ≡ sum_below DAYS (λ d. under_charge (run_length has history d) (has d) limits)
unfolding run_under sum_below
run_under-is has history limits = omega arith

-- the four parts of the charges of the days that no case limits
sum-parts : (n : ℕ) (b c r w : ℕ → ℕ) →
    sum_below n (λ d. work_run_weight * b d + off_run_weight * c d + request_weight * r d + w d) ≡
    work_run_weight * sum_below n b + off_run_weight * sum_below n c + request_weight * sum_below n r + sum_below n w
unfolding sum_below
sum-parts zero b c r w = refl
sum-parts (suc n) b c r w = omega (arith, sum-parts n b c r w)

-- the three parts of the costs of the days
sum-three : (n x y z : ℕ) (a b c : ℕ → ℕ) →
    sum_below n (λ d. x * a d + y * b d + z * c d) ≡ x * sum_below n a + y * sum_below n b + z * sum_below n c
unfolding sum_below
sum-three zero x y z a b c = omega arith
sum-three (suc n) x y z a b c = omega (arith, sum-three n x y z a b c)

-- ---- the growth of the totals above their maximums

pub weighted-most : (weight charges other : ℕ) → charges ≡ other → weighted weight charges ≤ weight * other
weighted-most weight charges other same = omega (arith, ap (λ (c : ℕ). weight * c) same)

grown : (weight charges before now : ℕ) → charges + before ≡ now → weighted weight charges + weight * before ≤ weight * now
grown weight charges before now same = omega (arith, ap (λ (c : ℕ). weight * c) same)

assignments-grow : (contract : Contract) (d : ℕ) (past : Past) (choice : Option ℕ) →
    assignment_above contract past choice + (past.assignments - contract.total.max) ≡ (past_after d past choice).assignments - contract.total.max
assignments-grow contract d past None = omega arith
assignments-grow contract d past (Some s) = grind (arith, nat_tests)

weekend-grows : (maximum before : ℕ) (worked : Bool) →
    cond (nat_le maximum before) (cond worked 1 0) 0 + (before - maximum) ≡ (before + cond worked 1 0) - maximum
weekend-grows maximum before true = grind (arith, nat_tests)
weekend-grows maximum before false = grind (arith, nat_tests)

weekends-grow : (contract : Contract) (d : ℕ) (past : Past) (choice : Option ℕ) →
    weekend_above contract d past choice + (past.weekends - contract.weekends) ≡ (past_after d past choice).weekends - contract.weekends
weekends-grow contract d past None = weekend-grows contract.weekends past.weekends (d == 6 && (is_some past.last || false))
weekends-grow contract d past (Some s) = weekend-grows contract.weekends past.weekends (d == 6 && (is_some past.last || true))

-- the cost of the totals above the maximums
abbrev pub totals_above : Tariff → Contract → Past → ℕ
totals_above tariff contract past =
    tariff.assignments * (past.assignments - contract.total.max) + tariff.weekends * (past.weekends - contract.weekends)

-- the same, if totals are charged
abbrev pub totals_charged : Bool → Tariff → Contract → Past → ℕ
totals_charged charged tariff contract past = cond charged (totals_above tariff contract past) 0

totals-grow : (charged : Bool) (tariff : Tariff) (contract : Contract) (d : ℕ) (past : Past) (choice : Option ℕ) →
    cond charged (totals_cost tariff contract d past choice) 0 + totals_charged charged tariff contract past ≤
    totals_charged charged tariff contract (past_after d past choice)
totals-grow true tariff contract d past choice =
    let assigned = grown tariff.assignments (assignment_above contract past choice) (past.assignments - contract.total.max)
    ((past_after d past choice).assignments - contract.total.max) (assignments-grow contract d past choice) in
    let worked = grown tariff.weekends (weekend_above contract d past choice) (past.weekends - contract.weekends)
    ((past_after d past choice).weekends - contract.weekends) (weekends-grow contract d past choice) in
    omega (arith, assigned, worked)
totals-grow false tariff contract d past choice = omega arith

-- two pasts with the same numbers are one
same-past : (one other : Past) → one.assignments ≡ other.assignments → one.weekends ≡ other.weekends → one.last ≡ other.last →
    one.shift_run ≡ other.shift_run → one.work_run ≡ other.work_run → one.off_run ≡ other.off_run → one ≡ other
same-past one other a w l s r o =
    ap (λ (x : ℕ). record one { assignments = x }) a ∙ ap (λ (x : ℕ). record one { assignments = other.assignments; weekends = x }) w ∙
    ap (λ (x : Option ℕ). record one { assignments = other.assignments; weekends = other.weekends; last = x }) l ∙
    ap (λ (x : ℕ). record other { shift_run = x; work_run = one.work_run; off_run = one.off_run }) s ∙
    ap (λ (x : ℕ). record other { work_run = x; off_run = one.off_run }) r ∙ ap (λ (x : ℕ). record other { off_run = x }) o

module _ (problem : Problem) (prices : Prices) (roster : Roster) (n : ℕ) where
  abbrev start : Past
  start = problem.past n

  pub shifts-are : sum_below DAYS (shifts_on problem prices roster n) ≡ charges_in_week ShiftRuns problem roster n
  shifts-are =
      sym (sum_below-same problem.shifts _ _ (λ s _. run_cost-is (is_on problem roster n s) (history_on problem n s) (problem.limits s)) ∙
      sum-swap problem.shifts DAYS (λ s d.
      run_charge (shift_run_before problem prices roster n d s) (is_on problem roster n s d) (problem.limits s)))

  pub over-are : sum_below DAYS (over_on problem prices roster n) ≡ charges_in_week WorkDays problem roster n
  over-are = sym (run_over-is (works problem roster n) start.work_run (problem.contract n).work)

  weekends-are : sum_below DAYS (λ d. weekend_charge (problem.contract n) d (worked_before problem prices roster n d) (works problem roster n d)) ≡
      weekend_cost problem roster n
  unfolding sum_below
  weekends-are = omega arith

  pub fixed-are : sum_below DAYS (fixed_on problem prices roster n) ≡ fixed_on_days problem roster n
  fixed-are =
      let parts = sum-parts DAYS
      (λ d. under_charge (work_run_before problem prices roster n d) (works problem roster n d) (problem.contract n).work)
      (λ d. run_charge (off_run_before problem prices roster n d) (is_off problem roster n d) (problem.contract n).off)
      (requested_on problem prices roster n)
      (λ d. weekend_charge (problem.contract n) d (worked_before problem prices roster n d) (works problem roster n d)) in
      let work = run_under-is (works problem roster n) start.work_run (problem.contract n).work in
      let off = run_cost-is (is_off problem roster n) start.off_run (problem.contract n).off in
      omega (arith, parts, work, off, weekends-are)

  weekend-counted : sum_below DAYS (weekends_on problem prices roster n) ≡ cond (works problem roster n 5 || works problem roster n 6) 1 0
  unfolding sum_below
  weekend-counted = omega arith

  -- the run on the last shift type
  end-run : (past : Past) → Follows problem prices roster n DAYS past → (last : Option ℕ) → past.last ≡ last →
      past.shift_run ≡ option_map_or (λ s. run_length (is_on problem roster n s) (history_on problem n s) DAYS) last 0
  end-run past follows None is = follows.run is
  end-run past follows (Some s) is =
      let inside = first-inside problem.shifts (λ t. is_on problem roster n t 6) s (sym follows.last ∙ is) in
      let here : run_on past s ≡ past.shift_run =
      ap (λ (one : Option ℕ). cond (is_shift one s) past.shift_run 0) is ∙ cond-true (s == s) past.shift_run 0 (eq-eqb s s refl) in
      sym here ∙ follows.on s inside

  -- ---- the past at the end is the history after the week

  pub follows-end : (past : Past) → Follows problem prices roster n DAYS past → past ≡ history_after problem roster n
  follows-end past follows =
      let last : past.last ≡ sunday_shift problem roster n = follows.last in
      same-past past (history_after problem roster n)
      (omega (arith, follows.assignments))
      (omega (arith, follows.weekends, weekend-counted))
      last
      (end-run past follows past.last refl ∙ ap (λ (one : Option ℕ). option_map_or (λ s. run_length (is_on problem roster n s) (history_on problem n s) DAYS) one 0) last)
      follows.work
      follows.off

-- ---- the minimum, day by day

module _ (terms : Terms) (one : LeafWeek) (roster : Roster) (n : ℕ) (within : ArePrices one.prices) (keeps : KeepsHardRules one.week roster)
    (n_in : n < one.week.nurses) (allows : AllowsChoices one (record { week = one.week; roster = roster }) n) where
  abbrev problem : Problem
  problem = one.week

  abbrev prices : Prices
  prices = one.prices

  abbrev first : Past
  first = problem.past n

  -- the cost of a day of the roster, without the totals
  abbrev cost_on : ℕ → ℕ
  cost_on d =
      terms.tariff.shift_runs * shifts_on problem prices roster n d + terms.tariff.work_days * over_on problem prices roster n d +
      terms.unit * fixed_on problem prices roster n d

  abbrev grown_to : Past → ℕ
  grown_to past = totals_charged terms.charged terms.tariff (problem.contract n) past

  -- the costs of a day after the past
  day-bounded : (d : ℕ) (past : Past) (choice : Option ℕ) → Follows problem prices roster n d past → Chooses problem prices roster n d choice →
      choice_cost terms.unit terms.tariff terms.charged problem n d past choice + grown_to past ≤
      cost_on d + grown_to (past_after d past choice)
  day-bounded d past choice follows chooses =
      let shifts = weighted-most terms.tariff.shift_runs (shift_charges problem past choice) (shifts_on problem prices roster n d)
      (shifts-same problem prices roster n d past choice follows chooses) in
      let over = weighted-most terms.tariff.work_days (over_charge past.work_run (is_some choice) (problem.contract n).work)
      (over_on problem prices roster n d) (over-same problem prices roster n d past choice follows chooses) in
      let fixed = ap (λ (c : ℕ). terms.unit * c) (fixed-same problem prices roster n d past choice follows chooses) in
      let totals = totals-grow terms.charged terms.tariff (problem.contract n) d past choice in
      omega (arith, shifts, over, fixed, totals)

  -- with this number of days left, the minimum is at most the costs so far and the minimum of the rest, less the prices so far
  record Reached (rest : Past → ℕ) (d days_left : ℕ) : Type 0 where
    pub past : Past
    pub follows : Follows problem prices roster n d past
    pub bounded : least_days terms one n rest DAYS first + sum_below d (paid_on problem prices roster n) + grown_to first ≤
        sum_below d cost_on + grown_to past + d * max_price + least_days terms one n rest days_left past

  -- the history forbids no shift type of Monday
  from_history : (last : Option ℕ) → first.last ≡ last → (t : ℕ) → t < problem.shifts → is_on problem roster n t 0 ≡ true →
      is_forbidden_after problem last t ≡ false
  from_history None is t t_in on = refl
  from_history (Some s) is t t_in on = keeps.of_competition.succession.from_history n s t n_in t_in is on

  pub follows-start : Follows problem prices roster n 0 first
  unfolding sum_below
  follows-start = record {
    on = λ s s_in. refl;
    work = refl;
    off = refl;
    worked = refl;
    last = refl;
    run = tt;
    allows = λ d_in t t_in on. from_history first.last refl t t_in on;
    assignments = omega arith;
    weekends = omega arith;
  }

  reached : (rest : Past → ℕ) (d days_left : ℕ) → d + days_left ≡ DAYS → Reached rest d days_left
  unfolding sum_below
  reached rest zero days_left all =
      let e : days_left ≡ DAYS = omega arith in
      record {
        past = first;
        follows = follows-start;
        bounded = omega (arith, ap (λ l. least_days terms one n rest l first) e);
      }
  reached rest (suc d) days_left all =
      let before = reached rest d (suc days_left) (omega arith) in
      let go = goes terms one roster n within keeps n_in allows d before.past (least_days terms one n rest days_left) (omega arith) before.follows in
      record {
        past = past_after d before.past go.choice;
        follows = go.follows;
        bounded =
            let step = least_days-step terms one n rest days_left d before.past (omega arith) in
            let day = day-bounded d before.past go.choice before.follows go.chooses in
            omega (arith, before.bounded, step, go.least, day, go.chooses.worth);
      }

  -- the days of the week, and the time after it
  pub days-bounded : (rest : Past → ℕ) →
      least_days terms one n rest DAYS first + paid problem prices roster n + grown_to first ≤
      terms.tariff.shift_runs * charges_in_week ShiftRuns problem roster n + terms.tariff.work_days * charges_in_week WorkDays problem roster n +
      terms.unit * fixed_on_days problem roster n + grown_to (history_after problem roster n) + DAYS * max_price +
      rest (history_after problem roster n)
  days-bounded rest =
      let all = reached rest DAYS 0 (omega arith) in
      let end = follows-end problem prices roster n all.past all.follows in
      let last = ap rest end in
      let grown = ap grown_to end in
      let costs = sum-three DAYS terms.tariff.shift_runs terms.tariff.work_days terms.unit (shifts_on problem prices roster n)
      (over_on problem prices roster n) (fixed_on problem prices roster n) in
      let shifts = ap (λ (c : ℕ). terms.tariff.shift_runs * c) (shifts-are problem prices roster n) in
      let over = ap (λ (c : ℕ). terms.tariff.work_days * c) (over-are problem prices roster n) in
      let fixed = ap (λ (c : ℕ). terms.unit * c) (fixed-are problem prices roster n) in
      omega (arith, all.bounded, least_days-end terms one n rest all.past, last, grown, costs, shifts, over, fixed)
