-- The terms of the model are in ascending order of their variables, and the coefficients of its constraints are 1 and -1.
use Rattle.rota_judge.proofs.Common.Imports.{ℕ, inl, refl, pos, All, All-from_recursion, AllByRecursion-append, Problem, cell_number, unit_number, numbered}
use Rattle.rota_judge.proofs.Common.Imports.{Term, times, LinearRow, linear_constraint, rows_of, item_row, slack_variables, numbered_row, numbered_terms}
use Rattle.rota_judge.proofs.Common.Imports.{model_of, unit_row, IsUnit, HasUnitCoefficients, ◌≡◌, zero, suc, ◌+◌, ◌≤◌, List, [], ◌∷◌, ◌++◌, arith, ℤ, nat_lt}
use Rattle.rota_judge.proofs.Common.Imports.{AllByRecursion, range_with_len, sum_by-cons, first_slack, slack_count, constant_terms, cell_terms, constant}
use Rattle.rota_judge.proofs.Common.Imports.{Item, Constraint, slack_weights, soft_items, objective_terms, numbered_items, RisesFrom, HasRisingTerms}
use Rattle.rota_judge.proofs.ModelRows.{each-model_row}
use Rattle.rota_items.proofs.ItemLemmas.{AreUnits, coefficients-numbered, units-times, slack_count-numbered, rises-numbered}
use Rattle.rota_items.proofs.ItemLemmas.{rise-cell_terms}
use Rattle.rota_items.proofs.LogicWords.{all-map, all-weaker}
use Rattle.rota_core.specs.RisingLists.{RisesWithin}
use Rattle.rota_core.proofs.LogicWords.{widen, rises-append, rises-singleton_if}

-- ---- coefficients

pub units-constraints : (problem : Problem) → All HasUnitCoefficients (model_of problem).constraints
units-constraints problem =
    All-from_recursion HasUnitCoefficients (model_of problem).constraints
    (all-map HasUnitCoefficients linear_constraint (rows_of problem)
    (each-model_row problem (λ row. HasUnitCoefficients (linear_constraint row)) (held (unit_row (unit_number problem)) (inl refl, tt))
    (λ rule row sound. held (numbered_row problem row) (coefficients-numbered IsUnit (cell_number problem) row.terms sound.terms.units))
    (λ rule item first sound after up_to.
    held (item_row (numbered (cell_number problem) item) first)
    (AllByRecursion-append (λ (term : Term ℕ). IsUnit term.0) (numbered_terms problem item.terms)
    (times (pos 1) (slack_variables (numbered (cell_number problem) item) first))
    (coefficients-numbered IsUnit (cell_number problem) item.terms sound.terms.units)
    (units-times (slack_variables (numbered (cell_number problem) item) first))))))
  where
    held : (row : LinearRow ℕ) → AreUnits row.terms → HasUnitCoefficients (linear_constraint row)
    held row units = All-from_recursion (λ (term : Term ℕ). IsUnit term.0) row.terms units

abbrev pub variable_of : Term ℕ → ℕ
variable_of term = term.1

-- the variables of the constraint rise from 1 on and below the end
abbrev pub RisesTo : ℕ → Constraint → Type 0
RisesTo end constraint = RisesWithin variable_of 1 end constraint.terms

from_within : (first end : ℕ) (terms : List (Term ℕ)) → RisesWithin variable_of first end terms → RisesFrom first terms
from_within first end [] rises = tt
from_within first end (t ∷ ts) rises = (rises.0, from_within (t.1 + 1) end ts rises.1)

module _ (problem : Problem) where
  -- ---- constraints

  rises-range : (first end count : ℕ) (coefficient : ℤ) → first + count ≤ end →
      RisesWithin variable_of first end (times coefficient (range_with_len first count))
  rises-range first end zero coefficient up_to = omega arith
  rises-range first end (suc n) coefficient up_to = (omega arith, rises-range (first + 1) end n coefficient (omega arith))

  pub rises-to_last : AllByRecursion (RisesTo ((model_of problem).variables + 1)) (model_of problem).constraints
  rises-to_last =
      let end : ℕ = (model_of problem).variables + 1 in
      all-map (RisesTo end) linear_constraint (rows_of problem)
      (each-model_row problem (λ row. RisesTo end (linear_constraint row)) (omega arith, omega arith)
      (λ rule row sound.
      widen variable_of 1 (unit_number problem) end _ (omega arith) (rises-numbered problem 1 _ row.terms sound.terms.rise))
      (λ rule item first sound after up_to.
      widen variable_of 1 (first + item.slacks) end _ up_to
      (rises-append variable_of 1 first _ (numbered_terms problem item.terms) _
      (widen variable_of 1 (unit_number problem) first _ (omega (arith, after)) (rises-numbered problem 1 _ item.terms sound.terms.rise))
      (rises-range first (first + item.slacks) item.slacks (pos 1) (omega arith)))))

  pub rises-constraints : All HasRisingTerms (model_of problem).constraints
  rises-constraints =
      All-from_recursion HasRisingTerms (model_of problem).constraints
      (all-weaker (RisesTo ((model_of problem).variables + 1)) HasRisingTerms
      (λ constraint rise. from_within 1 ((model_of problem).variables + 1) constraint.terms rise) (model_of problem).constraints rises-to_last)

  -- ---- the objective

  rises-slack_weights : (first end : ℕ) (some : List (Item ℕ)) → first + slack_count some ≤ end →
      RisesWithin variable_of first end (slack_weights first some)
  rises-slack_weights first end [] up_to = omega arith
  rises-slack_weights first end (item ∷ rest) up_to =
      let more : slack_count (item ∷ rest) ≡ item.slacks + slack_count rest = sum_by-cons (λ (i : Item ℕ). i.slacks) item rest in
      rises-append variable_of first (first + item.slacks) end (times (pos item.weight) (range_with_len first item.slacks))
      (slack_weights (first + item.slacks) rest) (rises-range first _ item.slacks (pos item.weight) (omega arith))
      (rises-slack_weights (first + item.slacks) end rest (omega arith))

  pub objective-to_last : RisesWithin variable_of 1 ((model_of problem).variables + 1) (objective_terms problem)
  objective-to_last =
      let end : ℕ = (model_of problem).variables + 1 in
      let slacks = slack_weights (first_slack problem) (numbered_items problem) in
      rises-append variable_of 1 (unit_number problem) end (numbered_terms problem (cell_terms problem)) (constant_terms problem ++ slacks)
      (rises-numbered problem 1 (unit_number problem) (cell_terms problem) (rise-cell_terms problem))
      (rises-append variable_of (unit_number problem) (first_slack problem) end (constant_terms problem) slacks
      (rises-singleton_if variable_of (unit_number problem) (first_slack problem) (nat_lt 0 (constant problem))
      (pos (constant problem), unit_number problem) (omega arith) (omega arith))
      (rises-slack_weights (first_slack problem) end (numbered_items problem)
      (omega (arith, slack_count-numbered (cell_number problem) (soft_items problem)))))

  pub rises-objective : RisesFrom 1 (objective_terms problem)
  rises-objective = from_within 1 ((model_of problem).variables + 1) (objective_terms problem) objective-to_last
