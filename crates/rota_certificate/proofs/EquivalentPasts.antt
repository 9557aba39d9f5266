-- Equivalent pasts have equal charges, also after equal choices.
use Rattle.std.proofs.Common.{◌≡◌, ℕ, zero, suc, ◌+◌, ◌-◌, ◌*◌, ◌==◌, Bool, false, true, cond, not, inl, inr, min, refl, ap, subst, sym, ◌∙◌, arith}
use Rattle.std.specs.Prelude.{List, [], ◌∷◌, Option, Some, None, is_some, nat_le}
use Rattle.std.specs.List.{AllByRecursion}
use Rattle.std.proofs.lemmas.Bool.{cases_Bool, eqb-true}
use Rattle.std.proofs.lemmas.Bool.Decides.{nat_tests}
use Rattle.rota_core.specs.Sizes.{DAYS}
use Rattle.rota_core.specs.Problem.{Problem}
use Rattle.rota_core.specs.declared.values.Contract.{Contract}
use Rattle.rota_core.specs.declared.values.Past.{Past}
use Rattle.rota_core.specs.declared.values.Span.{Span}
use Rattle.rota_core.specs.Successions.{is_forbidden_after}
use Rattle.rota_rules.specs.TotalAssignments.{assignment_weight}
use Rattle.rota_certificate.specs.EquivalentPasts.{AreEquivalent, AreEquivalentNumbers, HaveSameLimits, IsSameForEquivalent}
use Rattle.rota_certificate.specs.DayCharges.{assignment_above, choice_cost, fixed_charge, is_shift, missing_total, over_charge, past_after, run_charge, run_on}
use Rattle.rota_certificate.specs.DayCharges.{shift_charges, totals_cost, under_charge, weekend_above, weekend_charge, weekend_on, weighted}
use Rattle.rota_certificate.specs.Minimums.{least_below, not_allowed}
use Rattle.rota_certificate.specs.NurseBounds.{LeafWeek, Terms, allowed_rebate, choice_value, least_choice, least_days, rest_after}
use Rattle.rota_certificate.specs.declared.tariffs.Tariff.{Tariff}
use Rattle.rota_certificate.proofs.Sums.{least-same, sum_below-same}

-- ---- charges of equivalent numbers

run_charge-equivalent : (limits : Span) (run other : ℕ) (has : Bool) → AreEquivalentNumbers limits run other →
    run_charge run has limits ≡ run_charge other has limits
run_charge-equivalent limits run other true equivalent = grind (arith, nat_tests)
run_charge-equivalent limits run other false equivalent = grind (arith, nat_tests)

over_charge-equivalent : (limits : Span) (run other : ℕ) (works : Bool) → AreEquivalentNumbers limits run other →
    over_charge run works limits ≡ over_charge other works limits
over_charge-equivalent limits run other true equivalent = grind (arith, nat_tests)
over_charge-equivalent limits run other false equivalent = refl

under_charge-equivalent : (limits : Span) (run other : ℕ) (works : Bool) → AreEquivalentNumbers limits run other →
    under_charge run works limits ≡ under_charge other works limits
under_charge-equivalent limits run other true equivalent = refl
under_charge-equivalent limits run other false equivalent = grind (arith, nat_tests)

longer-equivalent : (limits : Span) (run other : ℕ) → AreEquivalentNumbers limits run other → AreEquivalentNumbers limits (run + 1) (other + 1)
longer-equivalent limits run other equivalent = omega arith

weekend-equivalent : (most weekends other now : ℕ) → min weekends most ≡ min other most →
    cond (nat_le most weekends) now 0 ≡ cond (nat_le most other) now 0
weekend-equivalent most weekends other now equivalent = grind (arith, nat_tests)

missing-equivalent : (is_last : Bool) (contract : Contract) (past other : Past) →
    AreEquivalentNumbers contract.total past.assignments other.assignments →
    missing_total is_last contract past ≡ missing_total is_last contract other
missing-equivalent false contract past other equivalent = refl
missing-equivalent true contract past other equivalent = omega arith

module _ (problem : Problem) (n : ℕ) (past other : Past) (equivalent : AreEquivalent problem n past other) where
  -- ---- the charges of a day

  shift_charges-equivalent : (choice : Option ℕ) → shift_charges problem past choice ≡ shift_charges problem other choice
  shift_charges-equivalent choice =
      sum_below-same problem.shifts (λ s. run_charge (run_on past s) (is_shift choice s) (problem.limits s))
      (λ s. run_charge (run_on other s) (is_shift choice s) (problem.limits s))
      (λ s _. run_charge-equivalent (problem.limits s) (run_on past s) (run_on other s) (is_shift choice s) (equivalent.shift_run s))

  fixed_charge-equivalent : (d : ℕ) (choice : Option ℕ) → fixed_charge problem n d past choice ≡ fixed_charge problem n d other choice
  fixed_charge-equivalent d choice =
      let under = under_charge-equivalent (problem.contract n).work past.work_run other.work_run (is_some choice) equivalent.work_run in
      let off = run_charge-equivalent (problem.contract n).off past.off_run other.off_run (not (is_some choice)) equivalent.off_run in
      let weekend = ap (λ (last : Option ℕ). weekend_charge (problem.contract n) d (is_some last) (is_some choice)) equivalent.last in
      omega (arith, under, off, weekend)

  assignment-equivalent : (choice : Option ℕ) → assignment_above (problem.contract n) past choice ≡ assignment_above (problem.contract n) other choice
  assignment-equivalent choice =
      over_charge-equivalent (problem.contract n).total past.assignments other.assignments (is_some choice) equivalent.assignments

  weekend_above-equivalent : (d : ℕ) (choice : Option ℕ) →
      weekend_above (problem.contract n) d past choice ≡ weekend_above (problem.contract n) d other choice
  weekend_above-equivalent d choice =
      weekend-equivalent (problem.contract n).weekends past.weekends other.weekends (weekend_on d (is_some past.last) (is_some choice))
      equivalent.weekends ∙
      ap (λ (last : Option ℕ). weekend_above (problem.contract n) d (record other { last = last }) choice) equivalent.last

  totals_cost-equivalent : (tariff : Tariff) (d : ℕ) (choice : Option ℕ) →
      totals_cost tariff (problem.contract n) d past choice ≡ totals_cost tariff (problem.contract n) d other choice
  totals_cost-equivalent tariff d choice =
      ap (λ (a : ℕ). weighted tariff.assignments a + weighted tariff.weekends (weekend_above (problem.contract n) d past choice))
      (assignment-equivalent choice) ∙
      ap (λ (w : ℕ). weighted tariff.assignments (assignment_above (problem.contract n) other choice) + weighted tariff.weekends w)
      (weekend_above-equivalent d choice)

  -- the cost of a day, from its charges
  abbrev cost_of : Terms → (shifts over fixed totals : ℕ) → ℕ
  cost_of terms shifts over fixed totals =
      weighted terms.tariff.shift_runs shifts + weighted terms.tariff.work_days over + terms.unit * fixed + cond terms.charged totals 0

  choice_cost-equivalent : (terms : Terms) (d : ℕ) (choice : Option ℕ) →
      choice_cost terms.unit terms.tariff terms.charged problem n d past choice ≡ choice_cost terms.unit terms.tariff terms.charged problem n d other choice
  choice_cost-equivalent terms d choice =
      let shifts = shift_charges-equivalent choice in
      let over = over_charge-equivalent (problem.contract n).work past.work_run other.work_run (is_some choice) equivalent.work_run in
      let fixed = fixed_charge-equivalent d choice in
      let totals = totals_cost-equivalent terms.tariff d choice in
      ap (λ (c : ℕ). cost_of terms c (over_charge past.work_run (is_some choice) (problem.contract n).work) (fixed_charge problem n d past choice)
      (totals_cost terms.tariff (problem.contract n) d past choice)) shifts ∙
      ap (λ (c : ℕ). cost_of terms (shift_charges problem other choice) c (fixed_charge problem n d past choice)
      (totals_cost terms.tariff (problem.contract n) d past choice)) over ∙
      ap (λ (c : ℕ). cost_of terms (shift_charges problem other choice)
      (over_charge other.work_run (is_some choice) (problem.contract n).work) c
      (totals_cost terms.tariff (problem.contract n) d past choice)) fixed ∙
      ap (λ (c : ℕ). cost_of terms (shift_charges problem other choice)
      (over_charge other.work_run (is_some choice) (problem.contract n).work) (fixed_charge problem n d other choice) c) totals

  -- ---- the past after a day

  weekends-equivalent : (d : ℕ) (works : Bool) →
      min (past.weekends + weekend_on d (is_some past.last) works) (problem.contract n).weekends ≡
      min (other.weekends + weekend_on d (is_some other.last) works) (problem.contract n).weekends
  weekends-equivalent d works =
      let now = ap (λ (last : Option ℕ). weekend_on d (is_some last) works) equivalent.last in
      omega (arith, now, equivalent.weekends)

  pub past_after-equivalent : (d : ℕ) (choice : Option ℕ) → AreEquivalent problem n (past_after d past choice) (past_after d other choice)
  past_after-equivalent d None = record {
    assignments = equivalent.assignments;
    weekends = weekends-equivalent d false;
    last = refl;
    shift_run = λ s. refl;
    work_run = refl;
    off_run = longer-equivalent (problem.contract n).off past.off_run other.off_run equivalent.off_run;
  }
  past_after-equivalent d (Some s) = record {
    assignments = longer-equivalent (problem.contract n).total past.assignments other.assignments equivalent.assignments;
    weekends = weekends-equivalent d true;
    last = refl;
    shift_run = λ t.
        elim (cases_Bool (s == t)) [
          | inl same ↦
              let e : s ≡ t = eqb-true s t same in
              let longer = longer-equivalent (problem.limits t) (run_on past t) (run_on other t) (equivalent.shift_run t) in
              rw (same, e) longer
          | inr differs ↦ rw differs refl
        ];
    work_run = longer-equivalent (problem.contract n).work past.work_run other.work_run equivalent.work_run;
    off_run = refl;
  }

-- ---- the minimum over the choices of a day

module _ (terms : Terms) (one : LeafWeek) (n : ℕ) (past other : Past) (equivalent : AreEquivalent one.week n past other) where
  module _ (d : ℕ) (rest : Past → ℕ) (same : IsSameForEquivalent one.week n rest) where
    -- the value of a choice that is barred or not, from the cost of the day and of the time after it
    abbrev value : Option ℕ → (barred : Bool) (cost after : ℕ) → ℕ
    value choice barred cost after = cond barred not_allowed (cost + allowed_rebate one n d choice + after)

    value-same : (choice : Option ℕ) {barred also : Bool} {cost equal after next : ℕ} → barred ≡ also → cost ≡ equal →
        after ≡ next →
        value choice barred cost after ≡ value choice also equal next
    value-same choice {barred} {also} {cost} {equal} {after} {next} e f g =
        ap (λ (b : Bool). value choice b cost after) e ∙ ap (λ (c : ℕ). value choice also c after) f ∙
        ap (λ (r : ℕ). value choice also equal r) g

    choice_value-equivalent : (choice : Option ℕ) → choice_value terms one n d past rest choice ≡ choice_value terms one n d other rest choice
    choice_value-equivalent None =
        value-same None {barred = false} {also = false} refl (choice_cost-equivalent one.week n past other equivalent terms d None)
        (same _ _ (past_after-equivalent one.week n past other equivalent d None))
    choice_value-equivalent (Some s) =
        value-same (Some s) (ap (λ (last : Option ℕ). is_forbidden_after one.week last s) equivalent.last)
        (choice_cost-equivalent one.week n past other equivalent terms d (Some s))
        (same _ _ (past_after-equivalent one.week n past other equivalent d (Some s)))

    pub least_choice-equivalent : least_choice terms one n d past rest ≡ least_choice terms one n d other rest
    least_choice-equivalent =
        let on = least-same one.week.shifts not_allowed (λ s. choice_value terms one n d past rest (Some s))
        (λ s. choice_value terms one n d other rest (Some s)) (λ s. choice_value-equivalent (Some s)) in
        ap (λ (v : ℕ). min v (least_below one.week.shifts not_allowed (λ s. choice_value terms one n d past rest (Some s))))
        (choice_value-equivalent None) ∙
        ap (λ (v : ℕ). min (choice_value terms one n d other rest None) v) on

-- ---- the minimum over the days of a week, and over the weeks of a leaf

module _ (terms : Terms) (n : ℕ) where
  pub least_days-equivalent : (one : LeafWeek) (rest : Past → ℕ) → IsSameForEquivalent one.week n rest → (days_left : ℕ) →
      IsSameForEquivalent one.week n (least_days terms one n rest days_left)
  unfolding least_days
  least_days-equivalent one rest same zero past other equivalent = same past other equivalent
  least_days-equivalent one rest same (suc days_left) past other equivalent =
      least_choice-equivalent terms one n past other equivalent (DAYS - suc days_left) (least_days terms one n rest days_left)
      (least_days-equivalent one rest same days_left)

-- pasts that are equivalent in a week are equivalent in another one with the same limits
equivalent-moves : (one other : Problem) (n : ℕ) (past also : Past) → HaveSameLimits one other → AreEquivalent one n past also →
    AreEquivalent other n past also
equivalent-moves one other n past also same equivalent = record {
  assignments = subst (λ (contract : Contract). AreEquivalentNumbers contract.total past.assignments also.assignments) (same.contract n)
      equivalent.assignments;
  weekends = subst (λ (contract : Contract). min past.weekends contract.weekends ≡ min also.weekends contract.weekends) (same.contract n)
      equivalent.weekends;
  last = equivalent.last;
  shift_run = λ s. subst (λ (limits : Span). AreEquivalentNumbers limits (run_on past s) (run_on also s)) (same.limits s) (equivalent.shift_run s);
  work_run = subst (λ (contract : Contract). AreEquivalentNumbers contract.work past.work_run also.work_run) (same.contract n) equivalent.work_run;
  off_run = subst (λ (contract : Contract). AreEquivalentNumbers contract.off past.off_run also.off_run) (same.contract n) equivalent.off_run;
}

same-limits-back : (one other : Problem) → HaveSameLimits one other → HaveSameLimits other one
same-limits-back one other same = record { limits = λ s. sym (same.limits s); contract = λ n. sym (same.contract n) }

module _ (terms : Terms) (n : ℕ) where
  -- the cost of the time after a week, if it and the later weeks have the limits of the problem
  pub rest_after-equivalent : (problem week : Problem) (later : List LeafWeek) → HaveSameLimits problem week →
      AllByRecursion (λ (one : LeafWeek). HaveSameLimits problem one.week) later →
      IsSameForEquivalent problem n (rest_after terms week later n)
  rest_after-equivalent problem week [] here same past other equivalent =
      ap (λ (missing : ℕ). terms.unit * (assignment_weight * missing))
      (missing-equivalent week.is_last (week.contract n) past other (equivalent-moves problem week n past other here equivalent).assignments)
  rest_after-equivalent problem week (next ∷ later) here same past other equivalent =
      least_days-equivalent terms n next (rest_after terms next.week later n)
      (λ one also moved. rest_after-equivalent problem next.week later same.0 same.1 one also
      (equivalent-moves next.week problem n one also (same-limits-back problem next.week same.0) moved))
      DAYS past other (equivalent-moves problem next.week n past other same.0 equivalent)
