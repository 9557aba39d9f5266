-- How a judge changes with the rows of items.
use Rattle.rota_judge.proofs.Common.Imports.{false, length-map, ◌≡◌, ℕ, zero, suc, ◌+◌, ◌*◌, ◌<◌, ◌≤◌, Bool, List, [], ◌∷◌, refl, sym, ap, ◌∙◌}
use Rattle.rota_judge.proofs.Common.Imports.{arith, min, w64, pos, nat_abs, ◌-ℤ◌, int_le, nat_le, AllByRecursion, count_by, count_by-le-length}
use Rattle.rota_judge.proofs.Common.Imports.{range_with_len, sum_by, fold, fold-append, lt-ltb, ints, sum_by-append, sum_by-cons, Roster, set_of}
use Rattle.rota_judge.proofs.Common.Imports.{Problem, Rule, unit_number, Item, positive_part, shortage, Term, value_of, times, LinearRow, item_row}
use Rattle.rota_judge.proofs.Common.Imports.{item_rows, slack_count, slack_variables, slack_weights, assignment_of, extension_of, model_of}
use Rattle.rota_judge.proofs.Common.Imports.{saturate_signed, nat_tests, RosterTables, Subject, assigned, extended, assignment_in, roster_in}
use Rattle.rota_judge.proofs.Common.Imports.{tallied, true_slacks, truth_of, Tally, row_events, events, half_limit, length-range_with_len}
use Rattle.rota_judge.proofs.Extension.{extension-below}
use Rattle.rota_judge.proofs.ItemLaw.{IsExtension, count-front, extends-after, needed-first, value_of-item_constraint, value_of-weight}
use Rattle.rota_judge.proofs.FirstUnmet.{Named}
use Rattle.rota_judge.proofs.JudgedRows.{Comes, IsJudged, covers, positive-saturated, row-comes, same, Before}
use Rattle.rota_judge.proofs.JudgedRows.{counted_other, counted_slack, others-before, slacks-before, sums_of, value_of-none}
use Rattle.rota_items.proofs.ItemLemmas.{value_of-append, positive_part-parts, shortage-minimum, spread, value_of-agree, on-times}
use Rattle.rota_items.proofs.ItemLemmas.{spread-units, units-times}

-- ---- the slacks of an item

module _ (problem : Problem) where
  -- a roster's extension has slacks for these items from this number on
  abbrev pub Follows : Roster → ℕ → List (Item ℕ) → Type 0
  Follows roster = IsExtension (extension_of problem roster) (assignment_of problem roster)

  pub shortage-extended : (roster : RosterTables) (item : Item ℕ) → Before problem (extended roster) item.terms →
      shortage (extension_of problem (set_of roster)) item ≡ shortage (assignment_of problem (set_of roster)) item
  shortage-extended roster item before =
      ap (λ z. positive_part (item.degree -ℤ z))
      (value_of-agree (extension_of problem (set_of roster)) (assignment_of problem (set_of roster)) (λ v. v < unit_number problem + 1) item.terms
      (extension-below problem (set_of roster)) before)

  range-above : (first n : ℕ) → unit_number problem < first → AllByRecursion (λ v. unit_number problem < v) (range_with_len first n)
  range-above first zero after = tt
  range-above first (suc n) after = (after, range-above (first + 1) n (omega arith))

  -- the number of an item's true slacks is the number that the judge counts
  slacks-paid : (given : Subject) (item : Item ℕ) (items : List (Item ℕ)) (first : ℕ) → Before problem given item.terms →
      unit_number problem < first → first + item.slacks ≤ (model_of problem).variables + 1 → Follows (roster_in problem given) first (item ∷ items) →
      true_slacks given (sums_of problem given (item_row item first).terms) (shortage (assignment_in problem given) item) ≡
      count_by (assignment_in problem given) (slack_variables item first)
  slacks-paid (assigned bits) item items first before after in_model follows =
      omega (
        arith,
        ints,
        positive_part-parts,
        value_of-append (counted_slack problem (assigned bits)) item.terms (times (pos 1) (slack_variables item first)),
        slacks-before problem (assigned bits) item.terms before,
        value_of-agree (counted_slack problem (assigned bits)) (truth_of bits) (λ v. unit_number problem < v) _
            (λ v above. rw (lt-ltb (unit_number problem) v above) refl)
            (on-times (λ v. unit_number problem < v) (pos 1) (slack_variables item first) (range-above first item.slacks after)),
        value_of-weight (truth_of bits) 1 (slack_variables item first),
      )
  slacks-paid (extended roster) item items first before after in_model follows =
      let own : ℕ → Bool = assignment_of problem (set_of roster) in
      omega (
        arith,
        ints,
        positive_part-parts,
        value_of-append (counted_slack problem (extended roster)) item.terms (times (pos 1) (slack_variables item first)),
        slacks-before problem (extended roster) item.terms before,
        value_of-weight (counted_slack problem (extended roster)) 1 (slack_variables item first),
        count-front (counted_slack problem (extended roster)) first item.slacks item.slacks (omega arith) (λ o within. grind (arith, nat_tests)),
        shortage-extended roster item before,
        count-front (extension_of problem (set_of roster)) first item.slacks (min item.slacks (shortage own item)) (omega arith)
            (λ o within. follows o ∙ needed-first own item items o within ∙ grind (arith, nat_tests)),
      )

-- ---- the rows

module _ (problem : Problem) (subject : Subject) where
  abbrev A : ℕ → Bool
  A = assignment_in problem subject

  -- no slack is one of the other terms
  no-others : (w first n : ℕ) → unit_number problem < first → value_of (counted_other problem subject) (times (pos w) (range_with_len first n)) ≡ pos 0
  no-others w first n after =
      value_of-agree (counted_other problem subject) (λ v. false) (λ v. unit_number problem < v) (times (pos w) (range_with_len first n))
      (λ v above. rw (lt-ltb (unit_number problem) v above) refl)
      (on-times (λ v. unit_number problem < v) (pos w) (range_with_len first n) (range-above problem first n after)) ∙
      value_of-none (times (pos w) (range_with_len first n))

  pub no-weights : (first : ℕ) (items : List (Item ℕ)) → unit_number problem < first →
      value_of (counted_other problem subject) (slack_weights first items) ≡ pos 0
  no-weights first [] after = refl
  no-weights first (item ∷ items) after =
      omega (
        arith,
        ints,
        value_of-append (counted_other problem subject) (times (pos item.weight) (slack_variables item first)) (slack_weights (first + item.slacks) items),
        no-others item.weight first item.slacks after,
        no-weights (first + item.slacks) items (omega arith),
      )

  pub record IsFit (item : Item ℕ) : Type 0 where
    pub before : Before problem subject item.terms
    pub small : spread item.terms + item.slacks + positive_part item.degree < half_limit

  module _ (item : Item ℕ) (first : ℕ) (fit : IsFit item) where
    abbrev paid_slacks : ℕ
    paid_slacks = count_by A (slack_variables item first)

    pub not_cut : positive_part (saturate_signed w64 (item.degree -ℤ value_of A item.terms)) ≡ shortage A item
    not_cut = omega (arith, positive-saturated (item.degree -ℤ value_of A item.terms), fit.small, shortage-minimum A item)

    item-judged : (items : List (Item ℕ)) → unit_number problem < first → first + item.slacks ≤ (model_of problem).variables + 1 →
        Follows problem (roster_in problem subject) first (item ∷ items) →
        IsJudged problem subject (item_row item first) item.weight (shortage A item) paid_slacks
    item-judged items after in_model follows =
        let others : value_of (counted_other problem subject) (item_row item first).terms ≡ value_of A item.terms = omega (
          arith,
          ints,
          value_of-append (counted_other problem subject) item.terms (times (pos 1) (slack_variables item first)),
          others-before problem subject item.terms fit.before,
          no-others 1 first item.slacks after,
        ) in record {
          closes = λ tally. refl;
          small = omega (
            arith,
            sum_by-append (λ (term : Term ℕ). nat_abs term.0) item.terms (times (pos 1) (slack_variables item first)),
            spread-units (times (pos 1) (slack_variables item first)) (units-times (slack_variables item first)),
            length-map {B = Term ℕ} (slack_variables item first) (λ v. (pos 1, v)),
            length-range_with_len first item.slacks,
          );
          lacks_is = ap (λ z. positive_part (saturate_signed w64 (item.degree -ℤ z))) others ∙ not_cut;
          slacks_are = slacks-paid problem subject item items first fit.before after in_model follows;
          met =
              ap (λ lacks. nat_le lacks paid_slacks) (sym not_cut) ∙
              covers item.degree (value_of A item.terms) paid_slacks
              (omega (arith, fit.small, count_by-le-length A (slack_variables item first), length-range_with_len first item.slacks)) ∙
              ap (int_le item.degree) (sym (value_of-item_constraint A item first));
        }

  -- the payment for the true slacks of items, and the charge of an item if it belongs to the rule
  abbrev pub paid_for : ℕ → List (Item ℕ) → ℕ
  paid_for first [] = 0
  paid_for first (item ∷ items) = item.weight * count_by A (slack_variables item first) + paid_for (first + item.slacks) items

  pub paid_for-is : (first : ℕ) (items : List (Item ℕ)) → value_of A (slack_weights first items) ≡ pos (paid_for first items)
  paid_for-is first [] = refl
  paid_for-is first (item ∷ items) =
      omega (
        arith,
        ints,
        value_of-append A (times (pos item.weight) (slack_variables item first)) (slack_weights (first + item.slacks) items),
        value_of-weight A item.weight (slack_variables item first),
        paid_for-is (first + item.slacks) items,
      )

  abbrev pub charge_of : Rule → Item ℕ → ℕ
  charge_of rule item = same item.rule rule * (item.weight * shortage A item)

  module _ (named : Named) (paid : ℕ) (total : Rule → ℕ) (requests : ℕ) where
    pub items-come : (tally : Tally) (first : ℕ) (items : List (Item ℕ)) → AllByRecursion IsFit items → unit_number problem < first →
        first + slack_count items ≤ (model_of problem).variables + 1 → Follows problem (roster_in problem subject) first items →
        Comes problem subject named paid total requests tally (item_rows first items) (paid_for first items) (λ rule. sum_by (charge_of rule) items) →
        Comes problem subject named paid total requests (fold (tallied problem subject) tally (events (item_rows first items))) [] 0 (λ rule. 0)
    unfolding events
    items-come tally first [] all after in_model follows comes = comes
    items-come tally first (item ∷ items) all after in_model follows comes =
        let row : LinearRow ℕ = item_row item first in
        let rows : List (LinearRow ℕ) = item_rows (first + item.slacks) items in
        let more : slack_count (item ∷ items) ≡ item.slacks + slack_count items = sum_by-cons (λ (item : Item ℕ). item.slacks) item items in
        rw (fold-append (tallied problem subject) tally (row_events row) (events rows))
        (items-come (fold (tallied problem subject) tally (row_events row)) (first + item.slacks) items all.1 (omega (arith, after))
        (omega (arith, more, in_model))
        (extends-after (extension_of problem (roster_in problem subject)) (assignment_of problem (roster_in problem subject)) item items first follows)
        (row-comes problem subject named paid total requests tally row item.weight _ _ rows _ _ _ _
        (item-judged item first all.0 items after (omega (arith, more, in_model)) follows) refl
        (λ other. sum_by-cons (charge_of other) item items) comes))
