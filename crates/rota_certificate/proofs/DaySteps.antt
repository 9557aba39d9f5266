-- A nurse's roster day by day: her past follows the roster, and each day costs what the rules charge for it.
use Rattle.std.proofs.Common.{◌≡◌, ℕ, zero, suc, ◌+◌, ◌-◌, ◌*◌, ◌<◌, ◌≤◌, inl, inr, Bool, true, false, not, cond, refl, ap, sym, ◌∙◌, arith}
use Rattle.std.proofs.Common.{◌==◌, ◌&&◌, add-one}
use Rattle.std.specs.Prelude.{⊤, IfSome, Option, Some, None, is_some, nat_lt, nat_le}
use Rattle.std.proofs.lemmas.Bool.{cases_Bool, eqb-true}
use Rattle.std.proofs.lemmas.Bool.Decides.{nat_tests}
use Rattle.rota_core.specs.Sizes.{DAYS}
use Rattle.rota_core.specs.SumsBelow.{sum_below}
use Rattle.rota_core.specs.HardRules.{is_off, is_on, works}
use Rattle.rota_core.specs.Roster.{Roster, cell}
use Rattle.rota_core.specs.Problem.{Problem}
use Rattle.rota_core.specs.declared.values.Past.{Past}
use Rattle.rota_core.specs.declared.values.Span.{Span}
use Rattle.rota_core.specs.Successions.{is_forbidden_after}
use Rattle.rota_rules.specs.Runs.{day_cost}
use Rattle.rota_rules.specs.Runs.{run_length}
use Rattle.rota_rules.specs.ConsecutiveAssignments.{history_on, work_run_weight}
use Rattle.rota_rules.specs.ConsecutiveDaysOff.{off_run_weight}
use Rattle.rota_rules.specs.ShiftOffRequests.{request_weight}
use Rattle.rota_certificate.specs.FirstBelow.{first_below}
use Rattle.rota_certificate.specs.DayCharges.{fixed_charge, is_shift, over_charge, past_after, requests_against, run_charge, run_on}
use Rattle.rota_certificate.specs.DayCharges.{shift_charges, under_charge, weekend_charge, weekend_on}
use Rattle.rota_certificate.specs.NurseBounds.{day_rebate, may_be_off}
use Rattle.rota_core.specs.Prices.{Prices, max_price}
use Rattle.rota_certificate.proofs.FirstBelow.{first-chosen}
use Rattle.rota_certificate.proofs.Sums.{sum_below-same}

charged : (has : Bool) (run : ℕ) (limits : Span) →
    cond (nat_lt limits.max (cond has (run + 1) 0)) 1 0 + cond (not has && nat_le 1 run) (limits.min - run) 0 ≡ run_charge run has limits
charged true run limits = omega arith
charged false run limits = grind (arith, nat_tests)

same_charge : {run other : ℕ} {has also : Bool} (limits : Span) → run ≡ other → has ≡ also → run_charge run has limits ≡ run_charge other also limits
same_charge {run} {other} {has} {also} limits e f = ap (λ r. run_charge r has limits) e ∙ ap (λ b. run_charge other b limits) f

same_over : {run other : ℕ} {works also : Bool} (limits : Span) → run ≡ other → works ≡ also → over_charge run works limits ≡ over_charge other also limits
same_over {run} {other} {works} {also} limits e f = ap (λ r. over_charge r works limits) e ∙ ap (λ b. over_charge other b limits) f

same_under : {run other : ℕ} {works also : Bool} (limits : Span) → run ≡ other → works ≡ also → under_charge run works limits ≡ under_charge other also limits
same_under {run} {other} {works} {also} limits e f = ap (λ r. under_charge r works limits) e ∙ ap (λ b. under_charge other b limits) f

same_weekend : (problem : Problem) (n d : ℕ) {saturday other sunday also : Bool} → saturday ≡ other → sunday ≡ also →
    weekend_charge (problem.contract n) d saturday sunday ≡ weekend_charge (problem.contract n) d other also
same_weekend problem n d {saturday} {other} {sunday} {also} e f =
    ap (λ a. weekend_charge (problem.contract n) d a sunday) e ∙ ap (λ b. weekend_charge (problem.contract n) d other b) f

same_weekends : (d : ℕ) {saturday other sunday also : Bool} → saturday ≡ other → sunday ≡ also →
    weekend_on d saturday sunday ≡ weekend_on d other also
same_weekends d {saturday} {other} {sunday} {also} e f = ap (λ a. weekend_on d a sunday) e ∙ ap (λ b. weekend_on d other b) f

-- the charge of a day is the charge after the run up to the day before
pub day_cost-is : (has : ℕ → Bool) (history : ℕ) (limits : Span) (d : ℕ) →
    day_cost has history limits d ≡ run_charge (run_length has history d) (has d) limits
day_cost-is has history limits d = rw (add-one d) (charged (has d) (run_length has history d) limits)

module _ (problem : Problem) (prices : Prices) (roster : Roster) (n : ℕ) where
  abbrev pub start : Past
  start = problem.past n

  -- whether the nurse works on the day before, which for Monday is the last day of her history
  abbrev pub worked_before : ℕ → Bool
  worked_before zero = is_some start.last
  worked_before (suc d) = works problem roster n d

  -- her shift type on the day before, if any
  abbrev pub last_before : ℕ → Option ℕ
  last_before zero = start.last
  last_before (suc d) = first_below problem.shifts (λ s. is_on problem roster n s d)

  -- the numbers of a day in the roster: its request rows against her cells, its cells, and their prices
  abbrev pub of_day : (ℕ → ℕ → ℕ) → ℕ → ℕ
  of_day f d = sum_below problem.shifts (λ s. sum_below problem.skills (λ k. cond (roster (cell n d s k)) (f s k) 0))

  abbrev pub requested_on : ℕ → ℕ
  requested_on d = of_day (λ s k. problem.requests n d s) d

  abbrev pub assigned_on : ℕ → ℕ
  assigned_on d = of_day (λ s k. 1) d

  abbrev pub paid_on : ℕ → ℕ
  paid_on d = of_day (prices d) d

  abbrev pub weekends_on : ℕ → ℕ
  weekends_on d = weekend_on d (worked_before d) (works problem roster n d)

  -- the runs up to the day before
  abbrev pub shift_run_before : ℕ → ℕ → ℕ
  shift_run_before d s = run_length (is_on problem roster n s) (history_on problem n s) d

  abbrev pub work_run_before : ℕ → ℕ
  work_run_before d = run_length (works problem roster n) start.work_run d

  abbrev pub off_run_before : ℕ → ℕ
  off_run_before d = run_length (is_off problem roster n) start.off_run d

  -- the charges of a day of the roster: of its runs of a shift type, of work beyond the maximum, and those that no case limits
  abbrev pub shifts_on : ℕ → ℕ
  shifts_on d = sum_below problem.shifts (λ s. run_charge (shift_run_before d s) (is_on problem roster n s d) (problem.limits s))

  abbrev pub over_on : ℕ → ℕ
  over_on d = over_charge (work_run_before d) (works problem roster n d) (problem.contract n).work

  abbrev pub fixed_on : ℕ → ℕ
  fixed_on d =
      work_run_weight * under_charge (work_run_before d) (works problem roster n d) (problem.contract n).work +
      off_run_weight * run_charge (off_run_before d) (is_off problem roster n d) (problem.contract n).off +
      request_weight * requested_on d +
      weekend_charge (problem.contract n) d (worked_before d) (works problem roster n d)

  -- after a day off there is no run on a shift type
  abbrev pub HasRunIfOn : ℕ → Past → Type 0
  HasRunIfOn zero past = ⊤
  HasRunIfOn (suc d) past = past.last ≡ None → past.shift_run ≡ 0

  -- the past is the one that the roster leaves before the day
  pub record Follows (d : ℕ) (past : Past) : Type 0 where
    pub on : (s : ℕ) → s < problem.shifts → run_on past s ≡ shift_run_before d s
    pub work : past.work_run ≡ work_run_before d
    pub off : past.off_run ≡ off_run_before d
    pub worked : is_some past.last ≡ worked_before d
    pub last : past.last ≡ last_before d
    pub run : HasRunIfOn d past
    pub allows : d < DAYS → (t : ℕ) → t < problem.shifts → is_on problem roster n t d ≡ true → is_forbidden_after problem past.last t ≡ false
    pub assignments : past.assignments ≡ start.assignments + sum_below d assigned_on
    pub weekends : past.weekends ≡ start.weekends + sum_below d weekends_on

  -- the choice is open to the nurse: a day off if no cell of the day is held, or one of the shift types
  abbrev pub IsOpen : ℕ → Option ℕ → Type 0
  IsOpen d None = may_be_off problem n d ≡ true
  IsOpen d (Some s) = s < problem.shifts

  -- the choice is the roster's
  pub record Chooses (d : ℕ) (choice : Option ℕ) : Type 0 where
    pub opened : IsOpen d choice
    pub on : (s : ℕ) → s < problem.shifts → is_on problem roster n s d ≡ is_shift choice s
    pub working : works problem roster n d ≡ is_some choice
    pub requested : requested_on d ≡ requests_against problem n d choice
    pub assigned : assigned_on d ≡ cond (is_some choice) 1 0
    pub worth : day_rebate problem prices n d choice + paid_on d ≤ max_price

  -- ---- the charges of a day

  module _ (d : ℕ) (past : Past) (choice : Option ℕ) (follows : Follows d past) (chooses : Chooses d choice) where
    pub shifts-same : shift_charges problem past choice ≡ shifts_on d
    shifts-same =
        sum_below-same problem.shifts (λ s. run_charge (run_on past s) (is_shift choice s) (problem.limits s))
        (λ s. run_charge (shift_run_before d s) (is_on problem roster n s d) (problem.limits s))
        (λ s s_in. same_charge (problem.limits s) (follows.on s s_in) (sym (chooses.on s s_in)))

    pub over-same : over_charge past.work_run (is_some choice) (problem.contract n).work ≡ over_on d
    over-same = same_over (problem.contract n).work follows.work (sym chooses.working)

    pub fixed-same : fixed_charge problem n d past choice ≡ fixed_on d
    fixed-same =
        let work = same_under (problem.contract n).work follows.work (sym chooses.working) in
        let off = same_charge (problem.contract n).off follows.off (ap not (sym chooses.working)) in
        let weekend = same_weekend problem n d follows.worked (sym chooses.working) in
        omega (arith, work, off, weekend, chooses.requested)

  -- ---- the past after a day

  -- the choice is the first shift type that the nurse is on
  pub chosen-first : (d : ℕ) (choice : Option ℕ) → Chooses d choice → IfSome choice (λ s. s < problem.shifts) →
      choice ≡ first_below problem.shifts (λ s. is_on problem roster n s d)
  chosen-first d choice chooses inside =
      first-chosen problem.shifts (λ s. is_on problem roster n s d) choice inside chooses.on

  module _ (d : ℕ) (past : Past) (follows : Follows d past) where
    pub follows-off : Chooses d None → Follows (suc d) (past_after d past None)
    unfolding sum_below
    follows-off chooses = record {
      on = λ s s_in. rw (chooses.on s s_in) refl;
      work = rw chooses.working refl;
      off = rw (chooses.working, follows.off) refl;
      worked = sym chooses.working;
      last = chosen-first d None chooses tt;
      run = λ _. refl;
      allows = λ _ t t_in on. refl;
      assignments = omega (arith, follows.assignments, chooses.assigned);
      weekends = let now = same_weekends d follows.worked (sym chooses.working) in omega (arith, follows.weekends, now);
    }

    pub follows-on : (s : ℕ) → Chooses d (Some s) →
        (suc d < DAYS → (t : ℕ) → t < problem.shifts → is_on problem roster n t (suc d) ≡ true → problem.is_forbidden s t ≡ false) →
        Follows (suc d) (past_after d past (Some s))
    unfolding sum_below
    follows-on s chooses succession = record {
      on = λ t t_in.
          elim (cases_Bool (s == t)) [
            | inl same ↦
                let e : s ≡ t = eqb-true s t same in
                rw (chooses.on t t_in, same) (ap (λ (r : ℕ). r + 1) (ap (run_on past) e ∙ follows.on t t_in))
            | inr other ↦ rw (chooses.on t t_in, other) refl
          ];
      work = rw (chooses.working, follows.work) refl;
      off = rw chooses.working refl;
      worked = sym chooses.working;
      last = chosen-first d (Some s) chooses chooses.opened;
      run = λ none. absurd (cc none);
      allows = succession;
      assignments = omega (arith, follows.assignments, chooses.assigned);
      weekends = let now = same_weekends d follows.worked (sym chooses.working) in omega (arith, follows.weekends, now);
    }
