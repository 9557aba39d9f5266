-- Numbers of slacks, and bounds on the numbers of variables, slacks and rows of a week's model.
use Rattle.rota_items.proofs.Common.Imports.{mul-le-mul_left, ◌≡◌, ℕ, ◌+◌, ◌<◌, ◌≤◌, List, [], ◌∷◌, length, refl, arith, sum_by, length-append, length-map}
use Rattle.rota_items.proofs.Common.Imports.{length-flat_map, sum_by-le-sum_by, mul-le-mul, Problem, first_slack, rule_rows, Item, linear_constraint}
use Rattle.rota_items.proofs.Common.Imports.{item_rows, slack_count, soft_rules, items_of_rule, soft_items, rows_of, model_of, cell_count, IsWithinLimits}
use Rattle.rota_items.proofs.Common.Imports.{Cell, map, numbered, sum_by-cons}
use Rattle.rota_items.proofs.Common.Imports.{count_limit, max_cells, max_items, max_slacks, InstanceTables, IsInstance, problem_of, word_limit, ◌*◌, le_trans}
use Rattle.rota_items.proofs.Common.Imports.{length-singleton_if, concat_below, Rule, hard_rules, rows_of_hard_rule, cells_of, h5_row, h3_monday_rows}
use Rattle.rota_items.proofs.Common.Imports.{h3_rows_between, h3_rows_of, H1, H2, H3, H4, H5, max_cells_of_nurse, max_nurses, max_shifts, max_skills}
use Rattle.rota_rules.proofs.CostLemmas.{instance-within_limits}
use Rattle.rota_items.proofs.RuleSizes.{small-rule, soft_items-le}
use Rattle.rota_items.proofs.LogicWords.{length-at_most, sum_by-map}

pub slack_count-cons : {X : Type 0} (item : Item X) (items : List (Item X)) → slack_count (item ∷ items) ≡ item.slacks + slack_count items
slack_count-cons item items = sum_by-cons (λ i. i.slacks) item items

pub slack_count-numbered : (number : Cell → ℕ) (items : List (Item Cell)) → slack_count (map (numbered number) items) ≡ slack_count items
slack_count-numbered number items = sum_by-map (λ (item : Item ℕ). item.slacks) (numbered number) items

pub length-item_rows : (first : ℕ) (items : List (Item ℕ)) → length (item_rows first items) ≡ length items
length-item_rows first [] = refl
length-item_rows first (item ∷ items) = omega (arith, length-item_rows (first + item.slacks) items)

-- the row of the unit variable, the rows of the hard rules, and one row for each item
pub length-rows_of : (problem : Problem) → length (rows_of problem) ≡ 1 + length (rule_rows problem) + length (soft_items problem)
length-rows_of problem = simp (length-append, length-map, length-item_rows) (omega arith)

module _ (problem : Problem) (limits : IsWithinLimits problem) where
  -- ---- the rows of the hard rules: no rule has more than there are cells

  -- the rows of a nurse: for Monday, and from each day to the next
  nurse-few : (n : ℕ) → length (h3_rows_of problem n) ≤ max_cells_of_nurse
  nurse-few n =
      let monday : length (h3_monday_rows problem n) ≤ max_shifts * 1 = length-at_most max_shifts limits.shifts _ (λ t. length-singleton_if _ _) in
      let later : length (concat_below 6 (h3_rows_between problem n)) ≤ 6 * (max_shifts * (max_shifts * 1)) =
      length-at_most 6 (omega arith) _ (λ d. length-at_most max_shifts limits.shifts _ (λ s.
      length-at_most max_shifts limits.shifts _ (λ t. length-singleton_if _ _))) in
      omega (arith, length-append (h3_monday_rows problem n) (concat_below 6 (h3_rows_between problem n)), monday, later)

  held-few : length (cells_of problem problem.is_held) ≤ max_cells
  unfolding cells_of
  held-few =
      length-at_most max_nurses limits.nurses _ (λ n. length-at_most 7 (omega arith) _ (λ d.
      length-at_most max_shifts limits.shifts _ (λ s. length-at_most max_skills limits.skills _ (λ k. length-singleton_if _ _))))

  rows-few : (rule : Rule) → length (rows_of_hard_rule problem rule) ≤ max_cells
  rows-few H1 =
      le_trans (length-at_most max_nurses limits.nurses _ (λ n. length-at_most {m = 1} 7 (omega arith) _ (λ d. omega arith))) (omega arith)
  rows-few H2 =
      le_trans (length-at_most 7 (omega arith) _ (λ d. length-at_most max_shifts limits.shifts _ (λ s.
      length-at_most max_skills limits.skills _ (λ k. length-singleton_if _ _)))) (omega arith)
  rows-few H3 = length-at_most max_nurses limits.nurses _ nurse-few
  rows-few H4 =
      le_trans (length-at_most max_nurses limits.nurses _ (λ n. length-at_most max_skills limits.skills _ (λ k. length-singleton_if _ _)))
      (omega arith)
  rows-few H5 = omega (arith, length-map (cells_of problem problem.is_held) h5_row, held-few)
  rows-few _ = omega arith

  pub rule_rows-few : length (rule_rows problem) ≤ length hard_rules * max_cells
  rule_rows-few =
      let few = sum_by-le-sum_by (λ rule. length (rows_of_hard_rule problem rule)) (λ _. max_cells) hard_rules rows-few in
      omega (arith, length-flat_map (rows_of_hard_rule problem) hard_rules)

  -- ---- variables

  pub cells-few : cell_count problem.nurses problem.shifts problem.skills ≤ max_cells
  cells-few = omega (arith, mul-le-mul (mul-le-mul (mul-le-mul_left 7 limits.nurses) limits.shifts) limits.skills)

  -- the number after the last slack
  pub variables_fit : first_slack problem + slack_count (soft_items problem) < count_limit
  variables_fit =
      omega (arith, cells-few, soft_items-le problem limits (λ item. item.slacks) max_slacks (λ rule item small. small.slacks))

  pub variables-below : (model_of problem).variables < count_limit
  variables-below = omega (arith, variables_fit)

  -- ---- rows

  pub items-few : length (soft_items problem) ≤ sum_by max_items soft_rules
  items-few =
      let few = sum_by-le-sum_by (λ rule. length (items_of_rule problem rule)) max_items soft_rules
      (λ rule. (small-rule problem limits rule).few) in
      omega (arith, length-flat_map (items_of_rule problem) soft_rules)

  pub rows-below : length (rows_of problem) < count_limit
  rows-below = omega (arith, length-rows_of problem, rule_rows-few, items-few)

  pub constraints-below : length (model_of problem).constraints < count_limit
  constraints-below = omega (arith, length-map (rows_of problem) linear_constraint, rows-below)

-- ---- the numbers that are computed from the tables

pub length-constraints : (problem : Problem) → length (model_of problem).constraints ≡ 1 + length (rule_rows problem) + length (soft_items problem)
length-constraints problem = omega (arith, length-map (rows_of problem) linear_constraint, length-rows_of problem)

module _ (tables : InstanceTables) (valid : IsInstance tables) where
  pub few-slacks : slack_count (soft_items (problem_of tables)) + first_slack (problem_of tables) < word_limit
  few-slacks = omega (arith, variables_fit (problem_of tables) (instance-within_limits tables valid))

  pub few-constraints : length (rule_rows (problem_of tables)) + length (soft_items (problem_of tables)) + 1 < count_limit
  few-constraints =
      omega (arith, length-rows_of (problem_of tables), rows-below (problem_of tables) (instance-within_limits tables valid))

pub ruleset numbers_of_model = (length-constraints, few-slacks, few-constraints)
