-- The bound of a leaf is at most the cost of each plan in its case.
use Rattle.std.proofs.Common.{◌≡◌, ℕ, ◌+◌, ◌*◌, ◌<◌, ◌≤◌, false, ap, sym, ◌∙◌, refl, subst, inl, inr, arith, List, [], ◌∷◌, length}
use Rattle.std.specs.List.{AllByRecursion}
use Rattle.std.proofs.lemmas.Bool.{cases_Bool}
use Rattle.rota_core.specs.Certificates.{AreConditionsFor}
use Rattle.rota_core.specs.Sizes.{DAYS}
use Rattle.rota_core.specs.SumsBelow.{sum_below}
use Rattle.rota_core.specs.Roster.{Roster}
use Rattle.rota_core.specs.Prices.{ArePrices, Prices, max_price}
use Rattle.rota_core.specs.Problem.{Problem}
use Rattle.rota_core.specs.declared.certificate.ChargeKind.{ChargeKind}
use Rattle.rota_core.specs.declared.certificate.ChargeKind.TheVariants.{Assignments, ShiftRuns, Weekends, WorkDays}
use Rattle.rota_certificate.specs.Facts.{Case, IsIn, charges_of_nurse, nurses_of}
use Rattle.rota_certificate.specs.LeafBounds.{bound_of_leaf, leaf_bound, leaf_place_bounds, leaf_weeks, nurse_count}
use Rattle.rota_certificate.specs.NurseBounds.{LeafWeek, nurse_bound}
use Rattle.rota_certificate.specs.NurseCosts.{AllowsPlan, nurse_cost, paid_in_plan}
use Rattle.rota_certificate.specs.Plans.{KeepRules, Plan, plan_after, plan_cost, plan_of}
use Rattle.rota_certificate.specs.Periods.{ArePeriod}
use Rattle.rota_certificate.specs.Tariffs.{has_overdrawn, points_of, surcharged, tariff_of, weight}
use Rattle.rota_certificate.specs.declared.surcharges.Surcharged.{Surcharged}
use Rattle.rota_certificate.specs.declared.tariffs.Tariff.{Tariff}
use Rattle.rota_certificate.proofs.CaseChoices.{KeepEach, begins-at}
use Rattle.rota_certificate.proofs.LeafWeeks.{allows-plan, have-nurses, places-within, plan-keeps, prices-within, weeks-same}
use Rattle.rota_certificate.proofs.NursePart.{nurse-bounded, weeks_of}
use Rattle.rota_certificate.proofs.ParityPart.{rules_tariff}
use Rattle.rota_certificate.proofs.PlanParts.{fixed_of, nurse_cost-is, optimum_of, plan_cost-is}
use Rattle.rota_certificate.proofs.Sums.{sum-each, sum-le, sum_below-plus, sum_below-same, sum-times}
use Rattle.rota_certificate.proofs.SurchargeSums.{AreMet, all_terms, case-met, surcharges-within}

-- the number of nurses of a leaf, and of a plan, is the number of its first week
count-of : (case : Case) (first : Problem) (later : List Problem) (prices : List Prices) →
    nurse_count (leaf_weeks case 0 (first ∷ later) prices) ≡ first.nurses
unfolding leaf_weeks
count-of case first later [] = refl
count-of case first later (price ∷ prices) = refl

pub nurses-are : (first : Problem) (later : List Problem) (rosters : List Roster) → length rosters ≡ length (first ∷ later) →
    nurses_of (plan_of (first ∷ later) rosters) ≡ first.nurses
unfolding plan_after
nurses-are first later [] count = absurd (omega (arith, count))
nurses-are first later (roster ∷ rosters) count = refl

-- a period with its rosters, and a leaf for it
module _ (first : Problem) (later : List Problem) (rosters : List Roster) (period : ArePeriod (first ∷ later))
    (keep : KeepRules (first ∷ later) rosters) (unit count : ℕ) (case : Case) (prices : List Prices) (within : AllByRecursion ArePrices prices)
    (are_for : AreConditionsFor first.numbers count case) (is_in : IsIn (plan_of (first ∷ later) rosters) case) where
  abbrev problems : List Problem
  problems = first ∷ later

  abbrev plan : Plan
  plan = plan_of problems rosters

  abbrev weeks : List LeafWeek
  weeks = leaf_weeks case 0 problems prices

  abbrev nurses : ℕ
  nurses = first.nurses

  abbrev span : ℕ
  span = length weeks * (DAYS * max_price)

  keeps : KeepEach first.numbers plan
  keeps = plan-keeps first later rosters period keep

  same_weeks : weeks_of weeks ≡ problems
  same_weeks = weeks-same case 0 problems prices

  -- a nurse's bound and her prices are at most her cost by the tariff and the added prices
  nurse-within : (tariff : Tariff) (n : ℕ) → n < nurses →
      nurse_bound unit tariff weeks n + paid_in_plan weeks plan n ≤ nurse_cost unit tariff plan n + span
  nurse-within tariff n n_in =
      subst (λ (list : List Problem). nurse_bound unit tariff weeks n + paid_in_plan weeks (plan_of list rosters) n ≤
      nurse_cost unit tariff (plan_of list rosters) n + span) same_weeks
      (nurse-bounded unit tariff weeks rosters n (prices-within case 0 problems prices within)
      (subst ArePeriod (sym same_weeks) period)
      (subst (λ (list : List Problem). KeepRules list rosters) (sym same_weeks) keep)
      (omega (arith, n_in, count-of case first later prices))
      (subst (λ (list : List Problem). AllowsPlan weeks (plan_of list rosters) n) (sym same_weeks)
      (allows-plan plan first.numbers count case are_for is_in n 0 problems prices plan n_in (begins-at plan) keeps)))

  -- the same for the sums over all nurses
  nurses-within : (charges : List Surcharged) →
      sum_below nurses (λ n. nurse_bound unit (tariff_of unit charges n) weeks n) + sum_below nurses (paid_in_plan weeks plan) ≤
      sum_below nurses (λ n. nurse_cost unit (tariff_of unit charges n) plan n) + nurses * span
  nurses-within charges =
      let each = sum-le nurses (λ n. nurse_bound unit (tariff_of unit charges n) weeks n + paid_in_plan weeks plan n)
      (λ n. nurse_cost unit (tariff_of unit charges n) plan n + span) (λ n n_in. nurse-within (tariff_of unit charges n) n n_in) in
      let left = sum_below-plus nurses (λ n. nurse_bound unit (tariff_of unit charges n) weeks n) (paid_in_plan weeks plan) in
      let right = sum_below-plus nurses (λ n. nurse_cost unit (tariff_of unit charges n) plan n) (λ n. span) in
      omega (arith, each, left, right, sum-each nurses span)

  nurses_are : nurses_of plan ≡ nurses
  nurses_are = nurses-are first later rosters keep.count

  -- the cost of all nurses with tariffs, by their charges
  costs-are : (tariff : ℕ → Tariff) (f : ChargeKind → ℕ → ℕ) →
      ((n : ℕ) → tariff n ≡ record { shift_runs = f ShiftRuns n; work_days = f WorkDays n; assignments = f Assignments n; weekends = f Weekends n }) →
      sum_below nurses (λ n. nurse_cost unit (tariff n) plan n) ≡ all_terms plan f + unit * sum_below nurses (fixed_of plan)
  costs-are tariff f is =
      let terms : ℕ → ℕ =
      λ n. f ShiftRuns n * charges_of_nurse ShiftRuns plan n + f WorkDays n * charges_of_nurse WorkDays plan n +
      f Assignments n * charges_of_nurse Assignments plan n + f Weekends n * charges_of_nurse Weekends plan n in
      let each = sum_below-same nurses (λ n. nurse_cost unit (tariff n) plan n) (λ n. terms n + unit * fixed_of plan n)
      (λ n _. nurse_cost-is unit (tariff n) plan n ∙
      ap (λ (one : Tariff). one.shift_runs * charges_of_nurse ShiftRuns plan n + one.work_days * charges_of_nurse WorkDays plan n +
      one.assignments * charges_of_nurse Assignments plan n + one.weekends * charges_of_nurse Weekends plan n + unit * fixed_of plan n) (is n)) in
      let split = sum_below-plus nurses terms (λ n. unit * fixed_of plan n) in
      let times = sum-times nurses unit (fixed_of plan) in
      let count = ap (λ (m : ℕ). sum_below m terms) nurses_are in
      omega (arith, each, split, times, count)

  places : leaf_place_bounds unit case 0 weeks ≤ unit * optimum_of plan + sum_below nurses (paid_in_plan weeks plan)
  places =
      places-within plan first.numbers count case are_for is_in unit 0 first.past problems prices rosters keep.count (begins-at plan) keeps

  bound-within : (charges : List Surcharged) → AreMet plan first.numbers count (sym nurses_are) charges → has_overdrawn unit charges nurses ≡ false →
      bound_of_leaf unit case charges weeks ≤ unit * plan_cost plan
  bound-within charges met fits =
      let bounds = ap (λ (m : ℕ). sum_below m (λ n. nurse_bound unit (tariff_of unit charges n) weeks n)) (count-of case first later prices) in
      let spans = ap (λ (m : ℕ). m * span) (count-of case first later prices) in
      let fits_plan : has_overdrawn unit charges (nurses_of plan) ≡ false = ap (λ (m : ℕ). has_overdrawn unit charges m) nurses_are ∙ fits in
      let surcharged_is = surcharges-within plan first.numbers count (sym nurses_are) charges met unit fits_plan in
      let here = costs-are (tariff_of unit charges) (weight unit charges) (λ n. refl) in
      let by_rules = costs-are (λ n. rules_tariff unit) (λ kind n. unit * points_of kind) (λ n. refl) in
      let cost = plan_cost-is unit nurses plan (have-nurses first.numbers plan keeps) in
      omega (arith, places, nurses-within charges, bounds, spans, surcharged_is, here, by_rules, cost)

  pub leaf-within : (surcharges : List ℕ) → leaf_bound unit problems case prices surcharges ≤ unit * plan_cost plan
  leaf-within surcharges =
      let charges = surcharged case surcharges in
      let same : has_overdrawn unit charges (nurse_count weeks) ≡ has_overdrawn unit charges nurses =
      ap (λ (m : ℕ). has_overdrawn unit charges m) (count-of case first later prices) in
      elim (cases_Bool (has_overdrawn unit charges (nurse_count weeks))) [
        | inl overdrawn ↦ rw overdrawn (omega arith)
        | inr fits ↦
            rw fits (bound-within charges (case-met plan first.numbers count (sym nurses_are) case surcharges are_for is_in) (sym same ∙ fits))
      ]
