-- The conditions on a soft rule and its items.
use Rattle.rota_items.proofs.Common.Imports.{◌≡◌, ℕ, ◌+◌, ◌*◌, ◌<◌, ◌≤◌, pos, AllByRecursion, arith, sum_below, concat_below}
use Rattle.rota_items.proofs.Common.Imports.{KeepsCompetitionRules, KeepsOneCell, Roster, Problem, Rule, Cell, Item, shortage, weighted_shortages}
use Rattle.rota_items.proofs.Common.Imports.{value_of, ints, ◌+ℤ◌, ◌++◌, List, max_nurses, AllByRecursion-concat_below, IsWithinLimits}
use Rattle.rota_items.proofs.Common.Imports.{max_constant_of_nurse, max_items, max_items_of_nurse, max_slacks}
use Rattle.rota_items.specs.RuleItems.{Charge, no_charge}
use Rattle.rota_items.specs.ModelCosts.{IsChargedOn}
use Rattle.rota_items.proofs.SoundTerms.{AreSound}
use Rattle.rota_items.proofs.SoftRules.Sizes.{IsItemSmall}
use Rattle.rota_items.proofs.LogicWords.{AreFew, few-concat_below, sum_by-each}
use Rattle.rota_rules.proofs.LogicWords.{sum_below-plus, sum_below-same}

-- ---- of an item

-- the charge of the item on a roster
abbrev pub weighted : Roster → Item Cell → ℕ
weighted roster item = item.weight * shortage roster item

-- the item belongs to the rule, its terms are sound, it has a weight and a slack, and its slacks cover its shortage
pub record IsItemSound (problem : Problem) (rule : Rule) (item : Item Cell) : Type 0 where
  pub rule_is : item.rule ≡ rule
  pub terms : AreSound problem item.terms
  pub weighs : 1 ≤ item.weight
  pub has_slack : 1 ≤ item.slacks
  pub enough : (roster : Roster) → KeepsCompetitionRules problem roster → shortage roster item ≤ item.slacks

-- ---- of a rule

-- all items of a charge, and its constant
abbrev pub items_in : Problem → Charge → List (Item Cell)
items_in problem charge = charge.day_items problem ++ concat_below problem.nurses (charge.nurse_items problem)

abbrev pub constant_in : Problem → Charge → ℕ
constant_in problem charge = sum_below problem.nurses (charge.nurse_constant problem)

-- The rule's items are sound. Their charge, with the rule's constant and its terms on cells, is the rule's cost. Within the limits
-- all of these are small.
pub record IsRuleSound (problem : Problem) (rule : Rule) (cost : Roster → ℕ) (charge : Charge) : Type 0 where
  pub items : AllByRecursion (IsItemSound problem rule) (items_in problem charge)
  pub charges : (roster : Roster) → IsChargedOn problem roster rule →
      pos (weighted_shortages roster (items_in problem charge) + constant_in problem charge) +ℤ value_of roster (charge.cell_terms problem) ≡
      pos (cost roster)
  pub small : IsWithinLimits problem → AreFew (IsItemSmall (max_slacks rule)) (max_items rule) (items_in problem charge)
  pub constant_small : IsWithinLimits problem → (n : ℕ) → charge.nurse_constant problem n ≤ max_constant_of_nurse rule

-- ---- of a rule that charges each nurse, and nothing else

abbrev pub of_nurses : (Problem → ℕ → List (Item Cell)) → (Problem → ℕ → ℕ) → Charge
of_nurses items constant = record no_charge { nurse_items = items; nurse_constant = constant }

-- the same as `IsRuleSound`, for each nurse
pub record IsNurseRuleSound (problem : Problem) (rule : Rule) (cost : Roster → ℕ → ℕ) (items_of : Problem → ℕ → List (Item Cell))
    (constant_of : Problem → ℕ → ℕ) : Type 0 where
  pub items : (n : ℕ) → n < problem.nurses → AllByRecursion (IsItemSound problem rule) (items_of problem n)
  pub charges : (roster : Roster) → KeepsOneCell problem roster → (n : ℕ) → n < problem.nurses →
      weighted_shortages roster (items_of problem n) + constant_of problem n ≡ cost roster n
  pub small : IsWithinLimits problem → (n : ℕ) → AreFew (IsItemSmall (max_slacks rule)) (max_items_of_nurse rule) (items_of problem n)
  pub constant_small : IsWithinLimits problem → (n : ℕ) → constant_of problem n ≤ max_constant_of_nurse rule

module _ {problem : Problem} {rule : Rule} {cost : Roster → ℕ → ℕ} {items : Problem → ℕ → List (Item Cell)} {constant : Problem → ℕ → ℕ}
    (sound : IsNurseRuleSound problem rule cost items constant) where
  pub by_nurse : ((roster : Roster) → IsChargedOn problem roster rule → KeepsOneCell problem roster) →
      max_items rule ≡ max_nurses * max_items_of_nurse rule →
      IsRuleSound problem rule (λ roster. sum_below problem.nurses (cost roster)) (of_nurses items constant)
  by_nurse one_cell maximum = record {
    items = AllByRecursion-concat_below (IsItemSound problem rule) problem.nurses (items problem) sound.items;
    charges = λ roster keeps.
        let parts = sum_below-plus problem.nurses (λ n. weighted_shortages roster (items problem n)) (constant problem) in
        let items = sum_by-each (weighted roster) problem.nurses (items problem) in
        omega (arith, ints, sum_below-same problem.nurses _ _ (sound.charges roster (one_cell roster keeps)));
    small = λ limits. rw maximum (few-concat_below max_nurses limits.nurses (items problem) (λ n _. sound.small limits n));
    constant_small = sound.constant_small;
  }
