-- A property shown for each soft rule holds for all items, for the terms on cells and for the penalty.
use Rattle.rota_items.proofs.Common.Imports.{◌≡◌, false, ◌+◌, ◌≤◌, true, List, [], ◌∷◌, refl, ap, ◌∙◌, arith, pos, ◌+ℤ◌, AllByRecursion}
use Rattle.rota_items.proofs.Common.Imports.{flat_map, sum_by, ints, sum_by-append, sum_by-cons, AllByRecursion-append, list_all}
use Rattle.rota_items.proofs.Common.Imports.{and_parts, append-nil, KeepsCompetitionRules, Roster, InWeek, Problem, Rule, Cell, Item, Term}
use Rattle.rota_items.proofs.Common.Imports.{shortage, weighted_shortages, value_of, soft_rules, cell_terms, cell_terms_of_rule, constant}
use Rattle.rota_items.proofs.Common.Imports.{constant_of_rule, items_of_rule, penalty, rule_cost, soft_items, request_terms, is_soft}
use Rattle.rota_items.proofs.LogicWords.{all-weaker}
use Rattle.rota_rules.proofs.LogicWords.{sum_below-zero}
use Rattle.rota_items.proofs.ItemLists.{none-concat_below}
use Rattle.rota_items.proofs.PatternItems.{value_of-append}
use Rattle.rota_items.proofs.RisingCells.{within}
use Rattle.rota_items.proofs.SoftRules.ConsecutiveDays.{sound-consecutive_assignments, sound-consecutive_days_off}
use Rattle.rota_items.proofs.SoftRules.OptimalCoverage.{sound-optimal_coverage}
use Rattle.rota_items.proofs.SoftRules.ShiftOffRequests.{IsTermSound, rise-request_terms, sound-request_terms, sound-shift_off_requests}
use Rattle.rota_items.specs.RuleItems.{charge_or_none, no_charge}
use Rattle.rota_items.specs.ModelCosts.{IsChargedOn}
use Rattle.rota_items.proofs.SoftRules.Sound.{IsItemSound, IsRuleSound, by_nurse, weighted}
use Rattle.rota_items.proofs.SoftRules.TotalAssignments.{sound-total_assignments}
use Rattle.rota_items.proofs.SoftRules.Weekends.{sound-complete_weekends, sound-worked_weekends}
use Rattle.rota_items.proofs.SoundTerms.{OnTerms}

abbrev pub SoftItem : {X : Type 0} → Item X → Type 0
SoftItem item = is_soft item.rule ≡ true

abbrev pub HasEnough : Roster → Item Cell → Type 0
HasEnough roster item = shortage roster item ≤ item.slacks

abbrev pub ItemIn : Problem → Item Cell → Type 0
ItemIn problem item = OnTerms (InWeek problem) item.terms

module _ (problem : Problem) where
  -- ---- rule by rule

  -- a rule that is not soft: a soft rule needs a line of its own below
  no_soft_rule : (rule : Rule) → is_soft rule ≡ false → IsRuleSound problem rule (λ roster. 0) no_charge
  no_soft_rule rule other = record {
    items = rw (← none-concat_below problem.nurses) tt;
    charges = λ roster keeps. rw (← none-concat_below problem.nurses) (omega (arith, ints, sum_below-zero problem.nurses (λ n. 0) (λ _ _. refl)));
    small = λ limits. rw (← none-concat_below problem.nurses) (record { each = tt; few = omega arith });
    constant_small = λ limits n. omega arith;
  }

  pub sound-rule : (rule : Rule) → IsRuleSound problem rule (λ roster. rule_cost problem roster rule) (charge_or_none rule)
  sound-rule Rule.S1 = sound-optimal_coverage problem
  sound-rule Rule.S2 = by_nurse (sound-consecutive_assignments problem) (λ _ one. one) refl
  sound-rule Rule.S3 = by_nurse (sound-consecutive_days_off problem) (λ _ one. one) refl
  sound-rule Rule.S4 = sound-shift_off_requests problem
  sound-rule Rule.S5 = by_nurse (sound-complete_weekends problem) (λ _ one. one) refl
  sound-rule Rule.S6 = by_nurse (sound-total_assignments problem) (λ _ one. one) refl
  sound-rule Rule.S7 = by_nurse (sound-worked_weekends problem) (λ _ one. one) refl
  sound-rule rule = no_soft_rule rule refl

  -- ---- all items

  module _ (P : Item Cell → Type 0) where
    on-items : ((rule : Rule) → is_soft rule ≡ true → AllByRecursion P (items_of_rule problem rule)) →
        (rules : List Rule) → list_all is_soft rules ≡ true → AllByRecursion P (flat_map (items_of_rule problem) rules)
    on-items each [] soft = tt
    on-items each (rule ∷ rules) soft =
        let both : (is_soft rule ≡ true) × (list_all is_soft rules ≡ true) = and_parts (is_soft rule) (list_all is_soft rules) soft in
        AllByRecursion-append P (items_of_rule problem rule) (flat_map (items_of_rule problem) rules) (each rule both.0)
        (on-items each rules both.1)

    -- properties of sound items of soft rules
    pub each-item : ((rule : Rule) (item : Item Cell) → is_soft rule ≡ true → IsItemSound problem rule item → P item) →
        AllByRecursion P (soft_items problem)
    each-item each =
        on-items (λ rule soft. all-weaker (IsItemSound problem rule) P (λ item. each rule item soft) (items_of_rule problem rule) (sound-rule rule).items)
        soft_rules refl

  pub soft_items-soft : AllByRecursion SoftItem (soft_items problem)
  soft_items-soft = each-item SoftItem (λ _ _ soft sound. ap is_soft sound.rule_is ∙ soft)

  -- ---- the terms on cells

  pub cell_terms-are : cell_terms problem ≡ request_terms problem
  cell_terms-are = append-nil (request_terms problem)

  pub sound-cell_terms : AllByRecursion (IsTermSound problem) (cell_terms problem)
  sound-cell_terms = rw cell_terms-are (sound-request_terms problem)

  pub rise-cell_terms : within problem (cell_terms problem)
  rise-cell_terms = rw cell_terms-are (rise-request_terms problem)

  pub in-cell_terms : OnTerms (InWeek problem) (cell_terms problem)
  in-cell_terms =
      all-weaker (IsTermSound problem) (λ (term : Term Cell). InWeek problem term.1) (λ term sound. sound.cell_in) (cell_terms problem)
      sound-cell_terms

  -- ---- sums

  -- on a roster that keeps the competition's rules, each rule's charge is its cost
  pub charged_on : (roster : Roster) → KeepsCompetitionRules problem roster → (rule : Rule) → IsChargedOn problem roster rule
  charged_on roster keeps Rule.S1 = keeps.minimum
  charged_on roster keeps Rule.S4 = tt
  charged_on roster keeps _ = keeps.one_cell

  -- the items of these rules, their constants and their terms on cells charge the cost of the rules
  charges-of : (roster : Roster) → KeepsCompetitionRules problem roster → (rules : List Rule) →
      pos (weighted_shortages roster (flat_map (items_of_rule problem) rules) + sum_by (constant_of_rule problem) rules) +ℤ
      value_of roster (flat_map (cell_terms_of_rule problem) rules) ≡
      pos (sum_by (rule_cost problem roster) rules)
  charges-of roster keeps [] = refl
  charges-of roster keeps (rule ∷ rules) =
      let items = sum_by-append (weighted roster) (items_of_rule problem rule) (flat_map (items_of_rule problem) rules) in
      let terms = value_of-append roster (cell_terms_of_rule problem rule) (flat_map (cell_terms_of_rule problem) rules) in
      let costs = sum_by-cons (rule_cost problem roster) rule rules in
      let charged = (sound-rule rule).charges roster (charged_on roster keeps rule) in
      omega (arith, ints, sum_by-cons (constant_of_rule problem) rule rules, charges-of roster keeps rules)

  pub charges-penalty : (roster : Roster) → KeepsCompetitionRules problem roster →
      pos (weighted_shortages roster (soft_items problem) + constant problem) +ℤ value_of roster (cell_terms problem) ≡
      pos (penalty problem roster)
  charges-penalty roster keeps = charges-of roster keeps soft_rules
