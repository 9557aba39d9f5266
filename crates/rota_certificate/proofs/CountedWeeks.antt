-- The number of a nurse's charges, as it is counted day by day and week by week, is the number that the rules count.
use Rattle.std.proofs.Common.{◌≡◌, ℕ, zero, suc, ◌+◌, ◌-◌, ◌<◌, ◌≤◌, true, false, refl, ap, sym, ◌∙◌, subst, arith, add-one}
use Rattle.std.specs.Prelude.{IfSome, Option, Some, None}
use Rattle.rota_core.specs.HardRules.{KeepsHardRules}
use Rattle.rota_core.specs.Prices.{Prices}
use Rattle.rota_core.specs.Problem.{Problem}
use Rattle.rota_core.specs.Roster.{Roster}
use Rattle.rota_core.specs.Sizes.{DAYS}
use Rattle.rota_core.specs.SumsBelow.{sum_below}
use Rattle.rota_core.specs.declared.certificate.ChargeKind.{ChargeKind}
use Rattle.rota_core.specs.declared.certificate.ChargeKind.TheVariants.{Assignments, ShiftRuns, Weekends, WorkDays}
use Rattle.rota_core.specs.declared.values.Past.{Past}
use Rattle.rota_rules.specs.CountedTotals.{charged_excess}
use Rattle.rota_rules.specs.TotalAssignments.{assignments_of}
use Rattle.rota_rules.specs.WorkedWeekends.{worked_weekend}
use Rattle.rota_certificate.specs.CountedCharges.{choice_on, run_charges, total_charges}
use Rattle.rota_certificate.specs.DayCharges.{past_after}
use Rattle.rota_certificate.specs.Facts.{charges_in_week}
use Rattle.rota_certificate.specs.NurseBounds.{LeafWeek, Terms}
use Rattle.rota_certificate.specs.Plans.{Pasts, after, history_after}
use Rattle.rota_certificate.proofs.Choices.{goes}
use Rattle.rota_certificate.proofs.DaySteps.{Chooses, Follows, chosen-first, over-same, over_on, shifts-same, shifts_on}
use Rattle.rota_certificate.proofs.Sums.{sum_below-same, sum_below-zero}
use Rattle.rota_certificate.proofs.WeekDays.{follows-end, follows-start, over-are, shifts-are}

-- ---- the days of a week

-- the nurse's past after the first days of the week
abbrev pub past_on : Problem → Roster → (nurse : ℕ) → Past → (days : ℕ) → Past
past_on week roster n past zero = past
past_on week roster n past (suc d) = past_after d (past_on week roster n past d) (choice_on week roster n d)

-- the charges of runs in the first days of the week
abbrev pub runs_on : ChargeKind → Problem → Roster → (nurse : ℕ) → Past → (days : ℕ) → ℕ
runs_on kind week roster n past days =
    sum_below days (λ d. run_charges kind week n (past_on week roster n past d) (choice_on week roster n d))

module _ (week : Problem) (roster : Roster) (n : ℕ) (keeps : KeepsHardRules week roster) (n_in : n < week.nurses) where
  -- without prices, and with each choice allowed
  abbrev leaf : LeafWeek
  leaf = record { week = week; prices = λ d s k. 0; may_choose = λ m d choice. true }

  abbrev terms : Terms
  terms = record { unit = 0; tariff = record { shift_runs = 0; work_days = 0; assignments = 0; weekends = 0 }; charged = false }

  abbrev no_prices : Prices
  no_prices = leaf.prices

  abbrev start : Past
  start = week.past n

  abbrev past_at : ℕ → Past
  past_at d = past_on week roster n start d

  chosen-inside : (d : ℕ) (choice : Option ℕ) → Chooses week no_prices roster n d choice → IfSome choice (λ s. s < week.shifts)
  chosen-inside d None chooses = tt
  chosen-inside d (Some s) chooses = chooses.opened

  -- the counted choice is the roster's
  record Chosen (d : ℕ) (past : Past) : Type 0 where
    pub chooses : Chooses week no_prices roster n d (choice_on week roster n d)
    pub follows : Follows week no_prices roster n (suc d) (past_after d past (choice_on week roster n d))

  chosen : (d : ℕ) (past : Past) → d < DAYS → Follows week no_prices roster n d past → Chosen d past
  chosen d past d_in follows =
      let go = goes terms leaf roster n (λ d s k. omega arith) keeps n_in (λ d choice d_in inside has. refl) d past (λ rest. 0) d_in follows in
      let same = chosen-first week no_prices roster n d go.choice go.chooses (chosen-inside d go.choice go.chooses) in
      record {
        chooses = subst (λ choice. Chooses week no_prices roster n d choice) same go.chooses;
        follows = subst (λ choice. Follows week no_prices roster n (suc d) (past_after d past choice)) same go.follows;
      }

  follows-at : (d : ℕ) → d ≤ DAYS → Follows week no_prices roster n d (past_at d)
  follows-at zero d_in = follows-start terms leaf roster n (λ d s k. omega arith) keeps n_in (λ d choice d_in inside has. refl)
  follows-at (suc d) d_in = (chosen d (past_at d) (omega arith) (follows-at d (omega arith))).follows

  chooses-at : (d : ℕ) → d < DAYS → Chooses week no_prices roster n d (choice_on week roster n d)
  chooses-at d d_in = (chosen d (past_at d) d_in (follows-at d (omega arith))).chooses

  pub past-end : past_at DAYS ≡ history_after week roster n
  past-end = follows-end week no_prices roster n (past_at DAYS) (follows-at DAYS (omega arith))

  shift_runs-counted : runs_on ShiftRuns week roster n start DAYS ≡ charges_in_week ShiftRuns week roster n
  shift_runs-counted =
      sum_below-same DAYS _ (shifts_on week no_prices roster n)
      (λ d d_in. shifts-same week no_prices roster n d (past_at d) (choice_on week roster n d) (follows-at d (omega arith)) (chooses-at d d_in)) ∙
      shifts-are week no_prices roster n

  work_days-counted : runs_on WorkDays week roster n start DAYS ≡ charges_in_week WorkDays week roster n
  work_days-counted =
      sum_below-same DAYS _ (over_on week no_prices roster n)
      (λ d d_in. over-same week no_prices roster n d (past_at d) (choice_on week roster n d) (follows-at d (omega arith)) (chooses-at d d_in)) ∙
      over-are week no_prices roster n

  assignments-counted : total_charges Assignments week n start (past_at DAYS) ≡ charges_in_week Assignments week roster n
  assignments-counted =
      let added : start.assignments + assignments_of week roster n - start.assignments ≡ assignments_of week roster n = omega arith in
      ap (λ past. total_charges Assignments week n start past) past-end ∙
      ap (λ now. charged_excess week (week.contract n).total.max start.assignments now) added

  weekends-counted : total_charges Weekends week n start (past_at DAYS) ≡ charges_in_week Weekends week roster n
  weekends-counted =
      let added : start.weekends + worked_weekend week roster n - start.weekends ≡ worked_weekend week roster n = omega arith in
      ap (λ past. total_charges Weekends week n start past) past-end ∙
      ap (λ now. charged_excess week (week.contract n).weekends start.weekends now) added

  -- the charges of runs and those of totals are the charges of the kind
  pub week-counted : (kind : ChargeKind) →
      runs_on kind week roster n start DAYS + total_charges kind week n start (past_at DAYS) ≡ charges_in_week kind week roster n
  week-counted ShiftRuns = omega (arith, shift_runs-counted)
  week-counted WorkDays = omega (arith, work_days-counted)
  week-counted Assignments = omega (arith, assignments-counted, sum_below-zero DAYS (λ d. run_charges Assignments week n (past_at d) (choice_on week roster n d)) (λ d d_in. refl))
  week-counted Weekends = omega (arith, weekends-counted, sum_below-zero DAYS (λ d. run_charges Weekends week n (past_at d) (choice_on week roster n d)) (λ d d_in. refl))

-- the same, given only this nurse's part of the history
pub after-counted : (week : Problem) (roster : Roster) (n : ℕ) (past : Past) (history : Pasts) → history n ≡ past →
    KeepsHardRules (after week history) roster → n < week.nurses → (kind : ChargeKind) →
    runs_on kind week roster n past DAYS + total_charges kind week n past (past_on week roster n past DAYS) ≡
    charges_in_week kind (after week history) roster n
after-counted week roster n past history here keeps n_in ShiftRuns =
    ap (λ (p : Past). runs_on ShiftRuns week roster n p DAYS + total_charges ShiftRuns week n p (past_on week roster n p DAYS)) (sym here) ∙
    week-counted (after week history) roster n keeps n_in ShiftRuns
after-counted week roster n past history here keeps n_in WorkDays =
    ap (λ (p : Past). runs_on WorkDays week roster n p DAYS + total_charges WorkDays week n p (past_on week roster n p DAYS)) (sym here) ∙
    week-counted (after week history) roster n keeps n_in WorkDays
after-counted week roster n past history here keeps n_in Assignments =
    ap (λ (p : Past). runs_on Assignments week roster n p DAYS + total_charges Assignments week n p (past_on week roster n p DAYS)) (sym here) ∙
    week-counted (after week history) roster n keeps n_in Assignments
after-counted week roster n past history here keeps n_in Weekends =
    ap (λ (p : Past). runs_on Weekends week roster n p DAYS + total_charges Weekends week n p (past_on week roster n p DAYS)) (sym here) ∙
    week-counted (after week history) roster n keeps n_in Weekends

pub after-end : (week : Problem) (roster : Roster) (n : ℕ) (past : Past) (history : Pasts) → history n ≡ past →
    KeepsHardRules (after week history) roster → n < week.nurses → past_on week roster n past DAYS ≡ history_after (after week history) roster n
after-end week roster n past history here keeps n_in =
    ap (λ (p : Past). past_on week roster n p DAYS) (sym here) ∙ past-end (after week history) roster n keeps n_in

-- one more day
pub past-more : (week : Problem) (roster : Roster) (n : ℕ) (past : Past) (d : ℕ) →
    past_on week roster n past (d + 1) ≡ past_after d (past_on week roster n past d) (choice_on week roster n d)
past-more week roster n past d = rw add-one refl
