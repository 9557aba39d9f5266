-- The size of each soft rule in a week within the limits: its items, their slacks, the weight of these, its shortages and its constant.
use Rattle.rota_items.proofs.Common.Imports.{ℕ, ◌*◌, ◌≤◌, List, length, arith, sum_by, sum_by-le, sum_by-le-sum_by, All-from_recursion, AllByRecursion}
use Rattle.rota_items.proofs.Common.Imports.{mul-le, Problem, Rule, Cell, Item, items_of_rule, soft_items, soft_rules, IsWithinLimits, max_items, max_slacks}
use Rattle.rota_items.proofs.Common.Imports.{max_nurses, nurse_constant, constant_of_rule, constant, max_constant, max_constant_of_nurse}
use Rattle.rota_items.proofs.Common.Imports.{max_constant_of_rule, InstanceTables, IsInstance, problem_of, Roster, shortage, weighted_shortages}
use Rattle.rota_items.proofs.Common.Imports.{max_cells, max_weight, max_charge, max_terms, mul-le-mul_left}
use Rattle.std.specs.Prelude.{◌^◌}
use Rattle.rota_rules.proofs.CostLemmas.{instance-within_limits}
use Rattle.rota_items.proofs.LogicWords.{AreFew, all-weaker, sum_by-flat_map, all-both, all-flat_map}
use Rattle.rota_rules.proofs.LogicWords.{sum_below-at_most}
use Rattle.rota_items.proofs.SoftRules.EachRule.{sound-rule}
use Rattle.rota_items.proofs.SoftRules.Sizes.{IsItemSmall}
use Rattle.rota_items.proofs.SoftRules.Sound.{IsItemSound}
use Rattle.rota_items.proofs.PatternItems.{shortage-minimum, spread}
use Rattle.rota_items.proofs.SoundTerms.{spread-units}

-- half the limit of a signed sum of 64 bits
abbrev pub half_limit : ℕ
half_limit = 2 ^ 62

constants-of_any : (rule : Rule) → max_constant_of_rule rule ≤ max_constant
constants-of_any rule = grind arith

items-of_any : (rule : Rule) → max_items rule ≤ max_cells
items-of_any rule = grind arith

module _ (problem : Problem) (limits : IsWithinLimits problem) where
  pub small-rule : (rule : Rule) → AreFew (IsItemSmall (max_slacks rule)) (max_items rule) (items_of_rule problem rule)
  small-rule rule = (sound-rule problem rule).small limits

  -- ---- sums over the items

  module _ (f : Item Cell → ℕ) (maximum : Rule → ℕ) where
    -- if the numbers of items are at most the maximum, their sum is at most the number of items times the maximum
    pub items-le : (rule : Rule) → AllByRecursion (λ item. f item ≤ maximum rule) (items_of_rule problem rule) →
        sum_by f (items_of_rule problem rule) ≤ max_items rule * maximum rule
    items-le rule all =
        let items : List (Item Cell) = items_of_rule problem rule in
        let sum = sum_by-le f (maximum rule) items (All-from_recursion _ items all) in
        omega (arith, mul-le (length items) (maximum rule) (max_items rule) (maximum rule) (small-rule rule).few (omega arith))

    pub soft_items-le : ((rule : Rule) (item : Item Cell) → IsItemSmall (max_slacks rule) item → f item ≤ maximum rule) →
        sum_by f (soft_items problem) ≤ sum_by (λ rule. max_items rule * maximum rule) soft_rules
    soft_items-le each =
        let small = λ (rule : Rule). items-le rule (all-weaker _ _ (each rule) (items_of_rule problem rule) (small-rule rule).each) in
        let sum = sum_by-le-sum_by (λ rule. sum_by f (items_of_rule problem rule)) (λ rule. max_items rule * maximum rule)
        soft_rules small in
        omega (arith, sum_by-flat_map f (items_of_rule problem) soft_rules)

  -- ---- the constant

  nurse_constant-le : (rule : Rule) (n : ℕ) → nurse_constant problem rule n ≤ max_constant_of_nurse rule
  nurse_constant-le rule = (sound-rule problem rule).constant_small limits

  constant_of_rule-le : (rule : Rule) → constant_of_rule problem rule ≤ max_constant_of_rule rule
  constant_of_rule-le rule = sum_below-at_most problem.nurses max_nurses _ _ limits.nurses (nurse_constant-le rule)

  pub constant_of_rule-few : (rule : Rule) → constant_of_rule problem rule ≤ max_constant
  constant_of_rule-few rule = omega (arith, constant_of_rule-le rule, constants-of_any rule)

  pub constant-few : constant problem ≤ max_constant
  constant-few = sum_by-le-sum_by (constant_of_rule problem) max_constant_of_rule soft_rules constant_of_rule-le

  -- ---- properties of small and sound items

  module _ (P : Item Cell → Type 0) where
    each-of_rule : (rule : Rule) → ((item : Item Cell) → IsItemSmall (max_slacks rule) item → IsItemSound problem rule item → P item) →
        AllByRecursion P (items_of_rule problem rule)
    each-of_rule rule each =
        all-both (IsItemSmall (max_slacks rule)) (IsItemSound problem rule) P each (items_of_rule problem rule) (small-rule rule).each
        (sound-rule problem rule).items

    pub each-small : ((rule : Rule) (item : Item Cell) → IsItemSmall (max_slacks rule) item → IsItemSound problem rule item → P item) →
        AllByRecursion P (soft_items problem)
    each-small each = all-flat_map P (items_of_rule problem) soft_rules (λ rule. each-of_rule rule (each rule))

  -- ---- shortages

  charge-few : (roster : Roster) (rule : Rule) (item : Item Cell) → IsItemSmall (max_slacks rule) item → IsItemSound problem rule item →
      item.weight * shortage roster item ≤ max_charge
  charge-few roster rule item small sound =
      let light : item.weight ≤ max_weight = omega (arith, mul-le-mul_left item.weight sound.has_slack) in
      let few : spread item.terms ≤ max_terms = omega (arith, spread-units item.terms sound.terms.units) in
      let charged = mul-le-mul_left item.weight (shortage-minimum roster item) in
      omega (arith, mul-le item.weight (spread item.terms) max_weight max_terms light few)

  pub shortages-few : (roster : Roster) (rule : Rule) → weighted_shortages roster (items_of_rule problem rule) ≤ half_limit
  shortages-few roster rule =
      let charged = items-le (λ item. item.weight * shortage roster item) (λ _. max_charge) rule in
      omega (arith, items-of_any rule, charged (each-of_rule _ rule (charge-few roster rule)))

-- ---- of an instance

module _ (tables : InstanceTables) (valid : IsInstance tables) where
  pub few-constant_of_rule : (rule : Rule) → constant_of_rule (problem_of tables) rule ≤ max_constant
  few-constant_of_rule rule = constant_of_rule-few (problem_of tables) (instance-within_limits tables valid) rule

  pub few-nurse_constant : (rule : Rule) (n : ℕ) → nurse_constant (problem_of tables) rule n ≤ max_constant
  few-nurse_constant rule n =
      omega (arith, nurse_constant-le (problem_of tables) (instance-within_limits tables valid) rule n, constants-of_any rule)

  pub few-constant : constant (problem_of tables) ≤ max_constant
  few-constant = constant-few (problem_of tables) (instance-within_limits tables valid)

pub ruleset few_constants = (few-constant_of_rule, few-nurse_constant, few-constant)
