-- The totals do not matter if neither the week nor a later one charges them.
use Rattle.std.proofs.Common.{◌≡◌, ℕ, zero, suc, ◌+◌, ◌-◌, ◌*◌, Bool, false, cond, min, refl, ap, sym, subst, ◌∙◌, List, [], ◌∷◌}
use Rattle.std.specs.List.{AllByRecursion}
use Rattle.std.specs.Prelude.{Option, Some, None}
use Rattle.rota_core.specs.Sizes.{DAYS}
use Rattle.rota_core.specs.Problem.{Problem}
use Rattle.rota_core.specs.declared.values.Past.{Past}
use Rattle.rota_rules.specs.TotalAssignments.{assignment_weight}
use Rattle.rota_certificate.specs.DayCharges.{choice_cost, missing_total, past_after}
use Rattle.rota_certificate.specs.Minimums.{least_below, not_allowed}
use Rattle.rota_certificate.specs.NurseBounds.{LeafWeek, Terms, allowed_rebate, choice_value, is_barred, least_days, rest_after}
use Rattle.rota_certificate.specs.Stages.{IsFreeOfTotals, IsStage, StageTables, later_of, least_in, week_of}
use Rattle.rota_certificate.specs.declared.tariffs.Tariff.{Tariff}
use Rattle.rota_certificate.proofs.Sums.{least-same}

-- the past with other totals
abbrev pub with_totals : Past → (assignments weekends : ℕ) → Past
with_totals past a w = record past { assignments = a; weekends = w }

-- the totals of a past do not matter for the cost after it
abbrev IsFree : (Past → ℕ) → Type 0
IsFree rest = (past : Past) (a w : ℕ) → rest (with_totals past a w) ≡ rest past

module _ (unit : ℕ) (tariff : Tariff) where
  -- the terms without a charge of the totals
  abbrev pub free_terms : (charged : Bool) → Terms
  free_terms charged = record { unit = unit; tariff = tariff; charged = charged }

  module _ (one : LeafWeek) (n : ℕ) (rest : Past → ℕ) (free : IsFree rest) where
    value-same : (d : ℕ) (past : Past) (a w : ℕ) (more : Past → ℕ) → IsFree more → (choice : Option ℕ) →
        choice_value (free_terms false) one n d (with_totals past a w) more choice ≡ choice_value (free_terms false) one n d past more choice
    value-same d past a w more same None =
        ap (λ (r : ℕ). choice_cost unit tariff false one.week n d past None + allowed_rebate one n d None + r) (same (past_after d past None) a _)
    value-same d past a w more same (Some s) =
        ap (λ (r : ℕ). cond (is_barred one.week past (Some s)) not_allowed
        (choice_cost unit tariff false one.week n d past (Some s) + allowed_rebate one n d (Some s) + r))
        (same (past_after d past (Some s)) (a + 1) _)

    pub days-free : (days_left : ℕ) → IsFree (least_days (free_terms false) one n rest days_left)
    unfolding least_days
    days-free zero past a w = free past a w
    days-free (suc days_left) past a w =
        let more : Past → ℕ = least_days (free_terms false) one n rest days_left in
        let same = value-same (DAYS - suc days_left) past a w more (days-free days_left) in
        let on = least-same one.week.shifts not_allowed
        (λ s. choice_value (free_terms false) one n (DAYS - suc days_left) (with_totals past a w) more (Some s))
        (λ s. choice_value (free_terms false) one n (DAYS - suc days_left) past more (Some s)) (λ s. same (Some s)) in
        ap (λ (v : ℕ). min v (least_below one.week.shifts not_allowed
        (λ s. choice_value (free_terms false) one n (DAYS - suc days_left) (with_totals past a w) more (Some s)))) (same None) ∙
        ap (λ (v : ℕ). min (choice_value (free_terms false) one n (DAYS - suc days_left) past more None) v) on

  rest-free : (n : ℕ) (week : Problem) (later : List LeafWeek) → week.is_last ≡ false →
      AllByRecursion IsFreeOfTotals later → IsFree (rest_after (free_terms false) week later n)
  rest-free n week [] none all past a w =
      let missing : (any : Past) → missing_total week.is_last (week.contract n) any ≡ 0 = λ any. rw none refl in
      ap (λ (m : ℕ). unit * (assignment_weight * m)) (missing (with_totals past a w) ∙ sym (missing past))
  rest-free n week (next ∷ later) none all past a w =
      days-free next n (rest_after (free_terms false) next.week later n) (rest-free n next.week later all.0 all.1) DAYS past a w

  left-free : (charged : Bool) (one : LeafWeek) (later : List LeafWeek) (n days_left : ℕ) (past : Past) → charged ≡ false →
      AllByRecursion IsFreeOfTotals (one ∷ later) →
      least_days (free_terms charged) one n (rest_after (free_terms charged) one.week later n) days_left (with_totals past 0 0) ≡
      least_days (free_terms charged) one n (rest_after (free_terms charged) one.week later n) days_left past
  left-free charged one later n days_left past none all =
      subst (λ (c : Bool). least_days (free_terms c) one n (rest_after (free_terms c) one.week later n) days_left (with_totals past 0 0) ≡
      least_days (free_terms c) one n (rest_after (free_terms c) one.week later n) days_left past) (sym none)
      (days-free one n (rest_after (free_terms false) one.week later n) (rest-free n one.week later all.0 all.1) days_left past 0 0)

pub stage-free : (stage : StageTables) (days_left : ℕ) (past : Past) → IsStage stage → stage.charged ≡ false →
    least_in stage days_left (with_totals past 0 0) ≡ least_in stage days_left past
stage-free stage days_left past is none =
    left-free stage.unit stage.tariff stage.charged (week_of stage) (later_of stage) stage.nurse days_left past none (is.free none)
