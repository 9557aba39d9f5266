-- The weeks of a leaf, and the plan of rosters for them.
use Rattle.std.proofs.Common.{◌≡◌, ℕ, ◌+◌, ◌*◌, ◌<◌, ◌≤◌, true, ap, sym, ◌∙◌, refl, subst, arith, add-one, List, [], ◌∷◌, length, map}
use Rattle.std.specs.Prelude.{IfSome, Option, Some, slice_get}
use Rattle.std.specs.List.{AllByRecursion}
use Rattle.std.proofs.lemmas.List.Sums.{sum_by-cons}
use Rattle.rota_core.specs.Certificates.{AreConditionsFor}
use Rattle.rota_core.specs.Sizes.{DAYS, Numbers}
use Rattle.rota_core.specs.SumsBelow.{sum_below}
use Rattle.rota_core.specs.HardRules.{KeepsHardRules}
use Rattle.rota_core.specs.Roster.{Roster}
use Rattle.rota_core.specs.Prices.{ArePrices, Prices}
use Rattle.rota_core.specs.Problem.{Problem}
use Rattle.rota_rules.specs.OptimalCoverage.{optimum_cost}
use Rattle.rota_certificate.specs.Facts.{Case, IsIn, has_choice}
use Rattle.rota_certificate.specs.LeafBounds.{leaf_place_bounds, leaf_weeks, may_choose}
use Rattle.rota_certificate.specs.NurseBounds.{LeafWeek}
use Rattle.rota_certificate.specs.NurseCosts.{AllowsPlan, paid, paid_in_plan}
use Rattle.rota_certificate.specs.PlaceCases.{case_place_bounds}
use Rattle.rota_certificate.specs.Plans.{Pasts, KeepRules, Plan, PlannedWeek, after, history_after, plan_after, plan_of}
use Rattle.rota_certificate.specs.Periods.{ArePeriod, Continue}
use Rattle.rota_certificate.proofs.CaseChoices.{BeginsAt, KeepEach, all-allowed}
use Rattle.rota_certificate.proofs.PlacePart.{case_place_bounds-within}
use Rattle.rota_certificate.proofs.PlanParts.{HaveNurses, optimum_of}
use Rattle.rota_certificate.proofs.Sums.{sum_below-plus}

-- ---- the weeks

pub weeks-same : (case : Case) (w : ℕ) (problems : List Problem) (prices : List Prices) →
    map (λ (one : LeafWeek). one.week) (leaf_weeks case w problems prices) ≡ problems
unfolding leaf_weeks
weeks-same case w [] prices = refl
weeks-same case w (problem ∷ problems) [] = ap (λ (later : List Problem). problem ∷ later) (weeks-same case (w + 1) problems [])
weeks-same case w (problem ∷ problems) (first ∷ prices) = ap (λ (later : List Problem). problem ∷ later) (weeks-same case (w + 1) problems prices)

-- the prices of the weeks are within their limit
pub prices-within : (case : Case) (w : ℕ) (problems : List Problem) (prices : List Prices) → AllByRecursion ArePrices prices →
    AllByRecursion (λ (one : LeafWeek). ArePrices one.prices) (leaf_weeks case w problems prices)
unfolding leaf_weeks
prices-within case w [] prices within = tt
prices-within case w (problem ∷ problems) [] within = ((λ d s k. omega arith), prices-within case (w + 1) problems [] within)
prices-within case w (problem ∷ problems) (first ∷ prices) within = (within.0, prices-within case (w + 1) problems prices within.1)

-- ---- the plan

same-numbers : (problem : Problem) (problems : List Problem) (numbers : Numbers) → problem.numbers ≡ numbers → Continue problem problems →
    AllByRecursion (λ (one : Problem). one.numbers ≡ numbers) problems
unfolding Continue
same-numbers problem [] numbers is period = tt
same-numbers problem (next ∷ later) numbers is period =
    let next_is = sym period.1.numbers ∙ is in
    (next_is, same-numbers next later numbers next_is period.2)

keep-each : (numbers : Numbers) (history : Pasts) (problems : List Problem) (rosters : List Roster) →
    AllByRecursion (λ (one : Problem). one.numbers ≡ numbers) problems →
    AllByRecursion (λ (one : PlannedWeek). KeepsHardRules one.week one.roster) (plan_after history problems rosters) →
    KeepEach numbers (plan_after history problems rosters)
unfolding plan_after
keep-each numbers history [] rosters same keep = tt
keep-each numbers history (problem ∷ problems) [] same keep = tt
keep-each numbers history (problem ∷ problems) (roster ∷ rosters) same keep =
    ((keep.0, same.0), keep-each numbers (history_after (after problem history) roster) problems rosters same.1 keep.1)

pub plan-keeps : (first : Problem) (later : List Problem) (rosters : List Roster) → ArePeriod (first ∷ later) → KeepRules (first ∷ later) rosters →
    KeepEach first.numbers (plan_of (first ∷ later) rosters)
plan-keeps first later rosters period keep =
    keep-each first.numbers first.past (first ∷ later) rosters (refl, same-numbers first later first.numbers refl period) keep.keep

pub have-nurses : (numbers : Numbers) (plan : Plan) → KeepEach numbers plan → HaveNurses numbers.nurses plan
have-nurses numbers [] keep = tt
have-nurses numbers (planned ∷ plan) keep = (ap (λ (one : Numbers). one.nurses) keep.0.1, have-nurses numbers plan keep.1)

-- ---- the choices that the case allows

module _ (plan : Plan) (numbers : Numbers) (weeks : ℕ) (case : Case) (are_for : AreConditionsFor numbers weeks case) (is_in : IsIn plan case) where
  choices-allowed : (n w : ℕ) (planned : PlannedWeek) → n < numbers.nurses → slice_get plan w ≡ Some planned →
      KeepsHardRules planned.week planned.roster × (planned.week.numbers ≡ numbers) →
      (d : ℕ) (choice : Option ℕ) → d < DAYS → IfSome choice (λ s. s < planned.week.shifts) →
      has_choice planned.week planned.roster n d choice ≡ true → may_choose case w n d choice ≡ true
  choices-allowed n w planned n_in here keep d choice d_in choice_in chosen =
      all-allowed plan weeks w planned here keep.0 n d (subst (λ (one : Numbers). n < one.nurses) (sym keep.1) n_in) d_in case choice
      (subst (λ (one : Numbers). AreConditionsFor one weeks case) (sym keep.1) are_for) is_in choice_in chosen

  pub allows-plan : (n w : ℕ) (problems : List Problem) (prices : List Prices) (rest : Plan) → n < numbers.nurses → BeginsAt plan w rest →
      KeepEach numbers rest → AllowsPlan (leaf_weeks case w problems prices) rest n
  unfolding leaf_weeks AllowsPlan BeginsAt
  allows-plan n w [] prices rest n_in begins keep = tt
  allows-plan n w (problem ∷ problems) [] [] n_in begins keep = tt
  allows-plan n w (problem ∷ problems) (first ∷ prices) [] n_in begins keep = tt
  allows-plan n w (problem ∷ problems) [] (planned ∷ rest) n_in begins keep =
      (choices-allowed n w planned n_in begins.0 keep.0, allows-plan n (w + 1) problems [] rest n_in (rw add-one begins.1) keep.1)
  allows-plan n w (problem ∷ problems) (first ∷ prices) (planned ∷ rest) n_in begins keep =
      (choices-allowed n w planned n_in begins.0 keep.0, allows-plan n (w + 1) problems prices rest n_in (rw add-one begins.1) keep.1)

  -- ---- the places

  -- the prices of the cells of all nurses
  abbrev pub all_paid : List LeafWeek → Plan → ℕ
  all_paid priced rest = sum_below numbers.nurses (paid_in_plan priced rest)

  places-step : (unit w : ℕ) (planned : PlannedWeek) (prices : Prices) → slice_get plan w ≡ Some planned →
      KeepsHardRules planned.week planned.roster × (planned.week.numbers ≡ numbers) →
      case_place_bounds unit case w planned.week prices ≤
      unit * optimum_cost planned.week planned.roster + sum_below numbers.nurses (paid planned.week prices planned.roster)
  places-step unit w planned prices here keep =
      let count = ap (λ (one : Numbers). sum_below one.nurses (paid planned.week prices planned.roster)) keep.1 in
      omega (arith, case_place_bounds-within plan w planned here prices unit case is_in keep.0.of_competition.minimum, count)

  pub places-within : (unit w : ℕ) (history : Pasts) (problems : List Problem) (prices : List Prices) (rosters : List Roster) →
      length rosters ≡ length problems → BeginsAt plan w (plan_after history problems rosters) →
      KeepEach numbers (plan_after history problems rosters) →
      leaf_place_bounds unit case w (leaf_weeks case w problems prices) ≤
      unit * optimum_of (plan_after history problems rosters) + all_paid (leaf_weeks case w problems prices) (plan_after history problems rosters)
  unfolding leaf_weeks leaf_place_bounds plan_after BeginsAt paid_in_plan
  places-within unit w history [] prices rosters count begins keep = omega arith
  places-within unit w history (problem ∷ problems) prices [] count begins keep = absurd (omega (arith, count))
  places-within unit w history (problem ∷ problems) [] (roster ∷ rosters) count begins keep =
      let planned : PlannedWeek = record { week = after problem history; roster = roster } in
      let rest : Plan = plan_after (history_after (after problem history) roster) problems rosters in
      let later = places-within unit (w + 1) (history_after (after problem history) roster) problems [] rosters (omega (arith, count)) (rw add-one begins.1) keep.1 in
      let sum = sum_below-plus numbers.nurses (paid problem (λ d s k. 0) roster) (paid_in_plan (leaf_weeks case (w + 1) problems []) rest) in
      let cost = ap (λ (x : ℕ). unit * x) (sum_by-cons (λ (one : PlannedWeek). optimum_cost one.week one.roster) planned rest) in
      omega (arith, places-step unit w planned (λ d s k. 0) begins.0 keep.0, later, sum, cost)
  places-within unit w history (problem ∷ problems) (first ∷ prices) (roster ∷ rosters) count begins keep =
      let planned : PlannedWeek = record { week = after problem history; roster = roster } in
      let rest : Plan = plan_after (history_after (after problem history) roster) problems rosters in
      let later = places-within unit (w + 1) (history_after (after problem history) roster) problems prices rosters (omega (arith, count)) (rw add-one begins.1) keep.1 in
      let sum = sum_below-plus numbers.nurses (paid problem first roster) (paid_in_plan (leaf_weeks case (w + 1) problems prices) rest) in
      let cost = ap (λ (x : ℕ). unit * x) (sum_by-cons (λ (one : PlannedWeek). optimum_cost one.week one.roster) planned rest) in
      omega (arith, places-step unit w planned first begins.0 keep.0, later, sum, cost)
