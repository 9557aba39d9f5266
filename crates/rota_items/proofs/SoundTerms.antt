-- Terms: properties of their variables and coefficients, and rising terms within the week with coefficients of 1 and -1.
use Rattle.rota_items.proofs.Common.Imports.{◌≡◌, ℕ, ◌<◌, Bool, List, [], ◌∷◌, refl, ℤ, pos, AllByRecursion, flat_map, AllByRecursion-append, ◌≤◌}
use Rattle.rota_items.proofs.Common.Imports.{true, false, inl, inr, map, length, arith, negsuc, nat_abs, if◌then◌else◌, sum_by-cons, max}
use Rattle.rota_items.proofs.Common.Imports.{AllByRecursion-concat_below, ◌+◌, Term, times, value_of, IsUnit, InWeek, Problem, on_cells, work_cells}
use Rattle.rota_items.proofs.Common.Imports.{demand_cells, Cell, cell_number, unit_number, Property, variables_on, day_terms, PatternDay, is_plain}
use Rattle.rota_items.proofs.EachPattern.{OnDays}
use Rattle.rota_items.proofs.LogicWords.{all-flat_map, all-map}
use Rattle.rota_items.proofs.PatternItems.{spread}
use Rattle.rota_core.specs.RisingLists.{RisesWithin}
use Rattle.rota_core.proofs.LogicWords.{length-rising}
use Rattle.rota_items.proofs.RisingCells.{cell_number-below}
use Rattle.rota_items.proofs.RisingCells.{at, in-cell, on-are, rises-demand_cells, rises-times, within, work-are}

-- ---- properties of the variables of a property's days are properties of its items' variables

abbrev pub OnTerms : {X : Type 0} → (X → Type 0) → List (Term X) → Type 0
OnTerms {X} P terms = AllByRecursion (λ (term : Term X). P term.1) terms

abbrev pub OnVariables : {X : Type 0} → (X → Type 0) → Property X → ℕ → Type 0
OnVariables P property d = AllByRecursion P (variables_on property d)

pub on-times : {X : Type 0} (P : X → Type 0) (coefficient : ℤ) (variables : List X) → AllByRecursion P variables →
    OnTerms P (times coefficient variables)
on-times {X} P coefficient variables all = all-map (λ (term : Term X). P term.1) (λ v. (coefficient, v)) variables all

-- two assignments that agree on the terms
pub value_of-agree : {X : Type 0} (one other : X → Bool) (P : X → Type 0) (terms : List (Term X)) →
    ((x : X) → P x → one x ≡ other x) → OnTerms P terms → value_of one terms ≡ value_of other terms
value_of-agree one other P [] agree all = refl
value_of-agree one other P (t ∷ ts) agree all = rw (agree t.1 all.0, value_of-agree one other P ts agree all.1) refl

pub on-days : {X : Type 0} (P : X → Type 0) (property : Property X) (days : List PatternDay) →
    OnDays (OnVariables P property) days → OnTerms P (flat_map (day_terms property) days)
on-days P property [] all = tt
on-days {X} P property (day ∷ days) all =
    AllByRecursion-append (λ (term : Term X). P term.1) (day_terms property day) (flat_map (day_terms property) days)
    (on-times P _ (variables_on property day.day) all.0) (on-days P property days all.1)

-- ---- properties of the coefficients of terms, and terms whose coefficients are 1 and -1

abbrev pub OnCoefficients : {X : Type 0} → (ℤ → Type 0) → List (Term X) → Type 0
OnCoefficients {X} P terms = AllByRecursion (λ (term : Term X). P term.0) terms

pub coefficients-times : {X : Type 0} (P : ℤ → Type 0) (coefficient : ℤ) (variables : List X) → P coefficient →
    OnCoefficients P (times coefficient variables)
coefficients-times P coefficient [] holds = tt
coefficients-times P coefficient (v ∷ vs) holds = (holds, coefficients-times P coefficient vs holds)

pub coefficients-numbered : {X : Type 0} (P : ℤ → Type 0) (number : X → ℕ) (terms : List (Term X)) → OnCoefficients P terms →
    OnCoefficients P (map (λ (term : Term X). (term.0, number term.1)) terms)
coefficients-numbered {X} P number terms all = all-map (λ (term : Term ℕ). P term.0) (λ (term : Term X). (term.0, number term.1)) terms all

-- ---- coefficients of 1 and -1

abbrev pub AreUnits : {X : Type 0} → List (Term X) → Type 0
AreUnits terms = OnCoefficients IsUnit terms

pub units-times : {X : Type 0} (variables : List X) → AreUnits (times (pos 1) variables)
units-times variables = coefficients-times IsUnit (pos 1) variables (inl refl)

pub units-days : {X : Type 0} (property : Property X) (days : List PatternDay) → AreUnits (flat_map (day_terms property) days)
units-days {X} property days =
    all-flat_map (λ (term : Term X). IsUnit term.0) (day_terms property) days (λ day.
    coefficients-times IsUnit _ (variables_on property day.day) (sign (is_plain property day)))
  where
    sign : (plain : Bool) → IsUnit (if plain then negsuc 0 else pos 1)
    sign true = inr refl
    sign false = inl refl

-- they spread no further than the number of terms
pub spread-units : {X : Type 0} (terms : List (Term X)) → AreUnits terms → spread terms ≤ length terms
spread-units [] all = omega arith
spread-units {X} (t ∷ ts) all =
    omega (arith, sum_by-cons (λ (term : Term X). nat_abs term.0) t ts, one t.0 all.0, spread-units ts all.1)
  where
    one : (c : ℤ) → IsUnit c → nat_abs c ≤ 1
    one c (inl plus) = rw plus (omega arith)
    one c (inr minus) = rw minus (omega arith)

-- ---- the cells of the model's sums lie within the week's numbers

module _ (problem : Problem) where
  pub in-on_cells : (n s d : ℕ) → n < problem.nurses → s < problem.shifts → d < 7 → AllByRecursion (InWeek problem) (on_cells problem n s d)
  in-on_cells n s d n_in s_in d_in = (on-are problem n s d).all (InWeek problem) (λ k k_in. in-cell problem n d s k n_in d_in s_in k_in)

  pub in-work_cells : (n d : ℕ) → n < problem.nurses → d < 7 → AllByRecursion (InWeek problem) (work_cells problem n d)
  in-work_cells n d n_in d_in = (work-are problem n d).all (InWeek problem) (λ s s_in k k_in. in-cell problem n d s k n_in d_in s_in k_in)

-- ---- sums of cells whose terms are within the week, rise, and have coefficients of 1 and -1

pub record AreSound (problem : Problem) (terms : List (Term Cell)) : Type 0 where
  pub in_week : OnTerms (InWeek problem) terms
  pub rise : within problem terms
  pub units : AreUnits terms

module _ (problem : Problem) where
  -- the number of terms with a coefficient of 1 or -1 at rising cells is at most the number of cells
  pub spread-sound : (terms : List (Term Cell)) → AreSound problem terms → spread terms ≤ unit_number problem
  spread-sound terms sound =
      omega (arith, spread-units terms sound.units, length-rising (at problem) 1 (unit_number problem) terms sound.rise)

  -- rising terms are within the week's numbers if their cells are the week's
  pub rises-inside : (from first end : ℕ) (terms : List (Term Cell)) → from ≤ unit_number problem → from ≤ max first 1 →
      RisesWithin (at problem) first end terms → OnTerms (InWeek problem) terms → RisesWithin (at problem) from (unit_number problem) terms
  rises-inside from first end [] up_to before rises inside = up_to
  rises-inside from first end (t ∷ ts) up_to before rises inside = (
    omega (arith, rises.0),
    rises-inside (at problem t + 1) (at problem t + 1) end ts (omega (arith, cell_number-below problem t.1 inside.0)) (omega arith) rises.1 inside.1,
  )

  -- rising cells of the week, each with the coefficient
  pub sound-cells : (coefficient : ℤ) → IsUnit coefficient → (first end : ℕ) (cells : List Cell) →
      AllByRecursion (InWeek problem) cells → RisesWithin (cell_number problem) first end cells → AreSound problem (times coefficient cells)
  sound-cells coefficient unit first end cells inside rises =
      let in_week = on-times (InWeek problem) coefficient cells inside in record {
        in_week = in_week;
        rise = rises-inside 1 first end _ (omega arith) (omega arith) (rises-times problem first end coefficient cells rises) in_week;
        units = coefficients-times IsUnit coefficient cells unit;
      }

  pub sound-demand : (d s k : ℕ) → d < 7 → s < problem.shifts → k < problem.skills → AreSound problem (times (pos 1) (demand_cells problem d s k))
  sound-demand d s k d_in s_in k_in =
      sound-cells (pos 1) (inl refl) _ _ (demand_cells problem d s k)
      (AllByRecursion-concat_below (InWeek problem) problem.nurses _ (λ n n_in. (in-cell problem n d s k n_in d_in s_in k_in, tt)))
      (rises-demand_cells problem d s k d_in s_in k_in)
