-- An item's constraint holds if and only if its shortage is at most its number of true slacks. In an
-- extension the number of true slacks is the shortage, or all slacks are true if it is more.
use Rattle.rota_judge.proofs.Common.Imports.{map, ◌≡◌, ◌↔◌, ℕ, zero, suc, ◌+◌, ◌-◌, ◌*◌, ◌<◌, ◌≤◌, Bool, cond, List, [], ◌∷◌, refl, ap, ◌∙◌, arith}
use Rattle.rota_judge.proofs.Common.Imports.{add-zero, ltb, pos, ◌+ℤ◌, ◌-ℤ◌, ◌≤ℤ◌, All, count_by, range_with_len, sum_by-cons, recursion_from_All}
use Rattle.rota_judge.proofs.Common.Imports.{lt-ltb, le-ltb, ints, nat_tests, AllByRecursion, All-from_recursion, All-head, All-tail, mul-le-mul_left}
use Rattle.rota_judge.proofs.Common.Imports.{extension, Item, positive_part, shortage, weighted_shortages, Term, Constraint, Satisfies, value_of}
use Rattle.rota_judge.proofs.Common.Imports.{times, AreBelow, slack_variables, item_constraint, item_constraints, slack_weights, is_slack_needed}
use Rattle.rota_items.proofs.ItemLemmas.{value_of-append, positive_part-parts, value_of-agree}

-- variables with one coefficient add it once for each true variable
pub value_of-weight : (assignment : ℕ → Bool) (w : ℕ) (variables : List ℕ) →
    value_of assignment (times (pos w) variables) ≡ pos (w * count_by assignment variables)
value_of-weight assignment w [] = omega (arith, ints)
value_of-weight assignment w (v ∷ vs) =
    grind (arith, ints, ap (λ k. w * k) (sum_by-cons (λ x. cond (assignment x) 1 0) v vs), value_of-weight assignment w vs)

pub value_of-item_constraint : (assignment : ℕ → Bool) (item : Item ℕ) (first : ℕ) →
    value_of assignment (item_constraint item first).terms ≡
    value_of assignment item.terms +ℤ pos (count_by assignment (slack_variables item first))
value_of-item_constraint assignment item first = rw (value_of-append, value_of-weight) (omega (arith, ints))

pub item_law : (assignment : ℕ → Bool) (item : Item ℕ) (first : ℕ) → Satisfies assignment (item_constraint item first) ↔
    (shortage assignment item ≤ count_by assignment (slack_variables item first))
item_law assignment item first =
    let parts = positive_part-parts (item.degree -ℤ value_of assignment item.terms) in
    let value = value_of-item_constraint assignment item first in
    (λ holds. omega (arith, ints, holds), λ enough. omega (arith, ints, enough))

-- if the items hold, the weighted shortages are at most the cost of the slacks
pub weighted_shortages-le : (assignment : ℕ → Bool) (first : ℕ) (items : List (Item ℕ)) →
    All (Satisfies assignment) (item_constraints first items) →
    pos (weighted_shortages assignment items) ≤ℤ value_of assignment (slack_weights first items)
weighted_shortages-le assignment first [] holds = omega (arith, ints)
weighted_shortages-le assignment first (item ∷ items) holds =
    let after : ℕ = first + item.slacks in
    let rest : List Constraint = item_constraints after items in
    omega (
      arith,
      ints,
      sum_by-cons (λ (i : Item ℕ). i.weight * shortage assignment i) item items,
      value_of-append assignment (times (pos item.weight) (slack_variables item first)) (slack_weights after items),
      value_of-weight assignment item.weight (slack_variables item first),
      mul-le-mul_left item.weight
          ((item_law assignment item first).0 (All-head (Satisfies assignment) (item_constraint item first) rest holds)),
      weighted_shortages-le assignment after items
          (All-tail (Satisfies assignment) (item_constraint item first) rest holds),
    )

-- ---- the slacks that are needed

-- if exactly the first k of n variables are true, their number is k
pub count-front : (assignment : ℕ → Bool) (first n k : ℕ) → k ≤ n → ((o : ℕ) → o < n → assignment (first + o) ≡ ltb o k) →
    count_by assignment (range_with_len first n) ≡ k
count-front assignment first zero k within each = omega arith
count-front assignment first (suc n) k within each =
    grind (
      arith,
      nat_tests,
      sum_by-cons (λ x. cond (assignment x) 1 0) first (range_with_len (first + 1) n),
      rw add-zero at (each 0 (omega arith)),
      count-front assignment (first + 1) n (k - 1) (omega arith) (λ o below.
          let same : first + 1 + o ≡ first + (o + 1) = omega arith in
          rw (same, each (o + 1) (omega arith)) (grind (arith, nat_tests))),
    )

abbrev pub IsExtension : (ℕ → Bool) → (ℕ → Bool) → ℕ → List (Item ℕ) → Type 0
IsExtension other assignment first items = (o : ℕ) → other (first + o) ≡ is_slack_needed assignment items o

-- the first item's slacks come first, and after them the slacks of the others
pub needed-first : (assignment : ℕ → Bool) (item : Item ℕ) (items : List (Item ℕ)) (o : ℕ) → o < item.slacks →
    is_slack_needed assignment (item ∷ items) o ≡ ltb o (shortage assignment item)
needed-first assignment item items o within = rw (lt-ltb o item.slacks within) refl

pub needed-after : (assignment : ℕ → Bool) (item : Item ℕ) (items : List (Item ℕ)) (o : ℕ) →
    is_slack_needed assignment (item ∷ items) (item.slacks + o) ≡ is_slack_needed assignment items o
needed-after assignment item items o =
    let next : item.slacks + o - item.slacks ≡ o = omega arith in rw (le-ltb (item.slacks + o) item.slacks (omega arith), next) refl

-- an assignment that has the slacks of items also has the slacks of the items after the first
pub extends-after : (other assignment : ℕ → Bool) (item : Item ℕ) (items : List (Item ℕ)) (first : ℕ) →
    IsExtension other assignment first (item ∷ items) → IsExtension other assignment (first + item.slacks) items
extends-after other assignment item items first extends o =
    let further : first + item.slacks + o ≡ first + (item.slacks + o) = omega arith in
    ap other further ∙ extends (item.slacks + o) ∙ needed-after assignment item items o

-- an extension has the slacks of its items from the first number on
pub extension-extends : (assignment : ℕ → Bool) (first : ℕ) (items : List (Item ℕ)) →
    IsExtension (extension assignment first items) assignment first items
extension-extends assignment first items o =
    let index : first + o - first ≡ o = omega arith in rw (le-ltb (first + o) first (omega arith), index) refl

-- properties of an assignment that agrees with another below a number, and has the slacks that the items need
module _ (other assignment : ℕ → Bool) (end : ℕ) (agree : (v : ℕ) → v < end → other v ≡ assignment v) where
  outcome : (first : ℕ) (items : List (Item ℕ)) → IsExtension other assignment first items →
      AllByRecursion (λ item. All (λ (term : Term ℕ). term.1 < end) item.terms) items →
      AllByRecursion (λ item. shortage assignment item ≤ item.slacks) items →
      AllByRecursion (Satisfies other) (item_constraints first items) ×
      (value_of other (slack_weights first items) ≡ pos (weighted_shortages assignment items))
  outcome first [] extends below enough = (tt, refl)
  outcome first (item ∷ items) extends below enough =
      let count : count_by other (slack_variables item first) ≡ shortage assignment item =
      count-front other first item.slacks (shortage assignment item) enough.0
      (λ o within. extends o ∙ needed-first assignment item items o within) in
      let same : value_of other item.terms ≡ value_of assignment item.terms =
      value_of-agree other assignment (λ v. v < end) item.terms agree
      (recursion_from_All (λ (term : Term ℕ). term.1 < end) item.terms below.0) in
      let rest =
      outcome (first + item.slacks) items
      (extends-after other assignment item items first extends) below.1 enough.1 in (
        ((item_law other item first).1 (omega (arith, count, ap (λ z. positive_part (item.degree -ℤ z)) same)), rest.0),
        omega (
          arith,
          ints,
          sum_by-cons (λ (i : Item ℕ). i.weight * shortage assignment i) item items,
          value_of-append other (times (pos item.weight) (slack_variables item first)) (slack_weights (first + item.slacks) items),
          value_of-weight other item.weight (slack_variables item first),
          ap (λ n. item.weight * n) count,
        ),
      )

module _ (assignment : ℕ → Bool) (first : ℕ) (items : List (Item ℕ)) (below : AreBelow first items)
    (enough : All (λ item. shortage assignment item ≤ item.slacks) items) where
  extension-outcome : AllByRecursion (Satisfies (extension assignment first items)) (item_constraints first items) ×
      (value_of (extension assignment first items) (slack_weights first items) ≡ pos (weighted_shortages assignment items))
  extension-outcome =
      outcome (extension assignment first items) assignment first (λ v under. rw (lt-ltb v first under) refl)
      first items (extension-extends assignment first items)
      (recursion_from_All (λ (item : Item ℕ). All (λ (term : Term ℕ). term.1 < first) item.terms) items below)
      (recursion_from_All (λ (item : Item ℕ). shortage assignment item ≤ item.slacks) items enough)

  pub extension_satisfies : All (Satisfies (extension assignment first items)) (item_constraints first items)
  extension_satisfies =
      All-from_recursion (Satisfies (extension assignment first items)) (item_constraints first items) extension-outcome.0

  pub value_of-extension :
      value_of (extension assignment first items) (slack_weights first items) ≡ pos (weighted_shortages assignment items)
  value_of-extension = extension-outcome.1

pub value_of-numbered : {X : Type 0} (number : X → ℕ) (assignment : ℕ → Bool) (terms : List (Term X)) →
    value_of assignment (map (λ (term : Term X). (term.0, number term.1)) terms) ≡ value_of (λ x. assignment (number x)) terms
value_of-numbered number assignment [] = refl
value_of-numbered number assignment (t ∷ ts) = rw (value_of-numbered number assignment ts) refl
