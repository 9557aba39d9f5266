-- The coefficients of the objective are positive and small. Bounds on the objective of any assignment.
use Rattle.rota_judge.proofs.Common.Imports.{ltb-true, request_cost, ◌≡◌, ℕ, ◌+◌, ◌<◌, Bool, cond, List, [], ◌∷◌, arith, ℤ, pos, ◌+ℤ◌, ◌≤ℤ◌, ◌<ℤ◌}
use Rattle.rota_judge.proofs.Common.Imports.{All, AllByRecursion, ints, All-from_recursion, AllByRecursion-append, AllByRecursion-singleton_if}
use Rattle.rota_judge.proofs.Common.Imports.{Problem, Cell, cell_number, first_slack, Item, numbered, Term, times, value_of, objective_value}
use Rattle.rota_judge.proofs.Common.Imports.{constant_terms, slack_variables, slack_weights, cell_terms, constant, soft_items, numbered_terms}
use Rattle.rota_judge.proofs.Common.Imports.{numbered_items, objective_terms, model_of, IsWithinLimits, max_coefficient, ◌*◌, ◌≤◌, ap, sum_by-cons}
use Rattle.rota_judge.proofs.Common.Imports.{count_by-le-length, sum_by, count_by, mul-le-mul_left, unit_number, roster_of, max_objective, max_weight}
use Rattle.rota_items.proofs.LogicWords.{all-map, all-weaker, sum_by-map}
use Rattle.rota_items.proofs.ItemLemmas.{constant-few, soft_items-le, each-small, each-item, cell_terms-are, sound-cell_terms}
use Rattle.rota_items.proofs.ItemLemmas.{IsTermSound, value_of-request_terms, OnCoefficients, coefficients-times, coefficients-numbered}
use Rattle.rota_items.proofs.ItemLemmas.{value_of-append}
use Rattle.rota_rules.proofs.CostLemmas.{request_cost-le}
use Rattle.std.proofs.lemmas.List.FromFn.{length-range_with_len as length-range}
use Rattle.rota_judge.proofs.Extension.{value_of-objective}
use Rattle.rota_judge.proofs.ItemLaw.{value_of-weight, value_of-numbered}

module _ (problem : Problem) (P : ℤ → Type 0) where
  abbrev OnWeight : {X : Type 0} → Item X → Type 0
  OnWeight item = P (pos item.weight)

  on-slack_weights : (first : ℕ) (items : List (Item ℕ)) → AllByRecursion OnWeight items → OnCoefficients P (slack_weights first items)
  on-slack_weights first [] all = tt
  on-slack_weights first (item ∷ items) all =
      AllByRecursion-append (λ (term : Term ℕ). P term.0) (times (pos item.weight) (slack_variables item first)) _
      (coefficients-times P (pos item.weight) (slack_variables item first) all.0) (on-slack_weights (first + item.slacks) items all.1)

  -- P holds of each coefficient of the objective
  on-objective : ((term : Term Cell) → IsTermSound problem term → P term.0) → (0 < constant problem → P (pos (constant problem))) →
      AllByRecursion OnWeight (soft_items problem) → OnCoefficients P (objective_terms problem)
  on-objective of_term of_constant of_items =
      AllByRecursion-append (λ (term : Term ℕ). P term.0) (numbered_terms problem (cell_terms problem)) _
      (coefficients-numbered P (cell_number problem) (cell_terms problem)
      (all-weaker (IsTermSound problem) (λ (term : Term Cell). P term.0) of_term (cell_terms problem) (sound-cell_terms problem)))
      (AllByRecursion-append (λ (term : Term ℕ). P term.0) (constant_terms problem) _
      (AllByRecursion-singleton_if (λ (term : Term ℕ). P term.0) _ _ (λ test. of_constant (ltb-true 0 (constant problem) test)))
      (on-slack_weights (first_slack problem) (numbered_items problem)
      (all-map OnWeight (numbered (cell_number problem)) (soft_items problem) of_items)))

-- ---- positive

abbrev pub IsPositive : ℤ → Type 0
IsPositive coefficient = pos 0 <ℤ coefficient

pub coefficients-positive : (problem : Problem) → OnCoefficients IsPositive (objective_terms problem)
coefficients-positive problem =
    on-objective problem IsPositive (λ term sound. sound.positive) (λ some. omega (arith, ints, some))
    (each-item problem (OnWeight problem IsPositive) (λ rule item _ sound. omega (arith, ints, sound.weighs)))

-- ---- small

abbrev IsSmall : ℤ → Type 0
IsSmall coefficient = coefficient ≤ℤ pos max_coefficient

pub objective-small : (problem : Problem) → IsWithinLimits problem → All (λ (term : Term ℕ). IsSmall term.0) (model_of problem).objective
objective-small problem limits =
    All-from_recursion (λ (term : Term ℕ). IsSmall term.0) (objective_terms problem)
    (on-objective problem IsSmall (λ term sound. omega (arith, ints, sound.small limits)) (λ _. omega (arith, ints, constant-few problem limits))
    (each-small problem limits (OnWeight problem IsSmall) (λ rule item small sound.
    omega (arith, ints, small.all_slacks, mul-le-mul_left item.weight sound.has_slack))))

-- ---- of any assignment

-- the weight of all slacks of an item
abbrev all_slacks : {X : Type 0} → Item X → ℕ
all_slacks item = item.weight * item.slacks

-- the slacks cost at least 0, and at most the weight of all of them
value_of-slack_weights : (assignment : ℕ → Bool) (first : ℕ) (some : List (Item ℕ)) →
    (pos 0 ≤ℤ value_of assignment (slack_weights first some)) ×
    (value_of assignment (slack_weights first some) ≤ℤ pos (sum_by all_slacks some))
value_of-slack_weights assignment first [] = (omega (arith, ints), omega (arith, ints))
value_of-slack_weights assignment first (x ∷ xs) =
    let few : count_by assignment (slack_variables x first) ≤ x.slacks =
    omega (arith, count_by-le-length assignment (slack_variables x first), length-range first x.slacks) in
    let parts = value_of-append assignment (times (pos x.weight) (slack_variables x first)) (slack_weights (first + x.slacks) xs) in
    let here = value_of-weight assignment x.weight (slack_variables x first) in
    let rest = value_of-slack_weights assignment (first + x.slacks) xs in (
      omega (arith, ints, parts, here, rest.0),
      omega (arith, ints, parts, here, rest.1, mul-le-mul_left x.weight few, sum_by-cons {X = Item ℕ} all_slacks x xs),
    )

module _ (problem : Problem) (assignment : ℕ → Bool) where
  objective-is : value_of assignment (objective_terms problem) ≡
      pos (request_cost problem (roster_of problem assignment) + cond (assignment (unit_number problem)) (constant problem) 0) +ℤ
      value_of assignment (slack_weights (first_slack problem) (numbered_items problem))
  objective-is =
      let numbered_are = value_of-numbered (cell_number problem) assignment (cell_terms problem) in
      let terms_are = ap (value_of (roster_of problem assignment)) (cell_terms-are problem) in
      omega (arith, ints, value_of-objective problem assignment, value_of-request_terms problem (roster_of problem assignment))

  pub objective_value-positive : pos 0 ≤ℤ objective_value assignment (model_of problem)
  objective_value-positive =
      omega (arith, ints, objective-is, (value_of-slack_weights assignment (first_slack problem) (numbered_items problem)).0)

  pub objective-below : IsWithinLimits problem → value_of assignment (objective_terms problem) ≤ℤ pos max_objective
  objective-below limits =
      let at_unit : cond (assignment (unit_number problem)) (constant problem) 0 ≤ constant problem = grind arith in
      let slacks = (value_of-slack_weights assignment (first_slack problem) (numbered_items problem)).1 in
      let weights = sum_by-map all_slacks (numbered (cell_number problem)) (soft_items problem) in
      let small = soft_items-le problem limits all_slacks (λ _. max_weight) (λ rule item small. small.all_slacks) in
      omega (arith, ints, objective-is, request_cost-le problem limits (roster_of problem assignment), constant-few problem limits)
