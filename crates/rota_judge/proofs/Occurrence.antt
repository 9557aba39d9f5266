-- A variable occurs in some constraint if and only if it is one of the model's.
use Rattle.rota_judge.proofs.Common.Imports.{◌≡◌, ◌↔◌, ℕ, zero, suc, ◌+◌, ◌<◌, ◌≤◌, Bool, true, false, inl, inr, nat_tests, List, [], ◌∷◌, map, arith, ℤ}
use Rattle.rota_judge.proofs.Common.Imports.{pos, negsuc, ◌==◌, AllByRecursion, AllByRecursion-back, list_any, range_with_len, All-from_recursion, subst}
use Rattle.rota_judge.proofs.Common.Imports.{cases_Bool, eqb-true, sum_by-cons, Any-from_list_any, Problem, Cell, work_cells, cell_number, cell_of_number}
use Rattle.rota_judge.proofs.Common.Imports.{unit_number, first_slack, rule_rows, Item, Term, times, LinearRow, linear_constraint, item_rows, slack_count}
use Rattle.rota_judge.proofs.Common.Imports.{soft_items, hard_rows, numbered_row, numbered_items, rows_of, model_of, occurs_in, OccursInSome}
use Rattle.rota_items.proofs.ItemLemmas.{none-pass, any_or_none, rises-between, work-are, slack_count-numbered, OnTerms}
use Rattle.rota_judge.proofs.HardRules.EachRule.{h1-are, rows-are}
use Rattle.rota_items.proofs.LogicWords.{all-weaker, all-back}
use Rattle.rota_judge.proofs.Numbers.{cell_of_number-in, cell_number-of}
use Rattle.rota_judge.proofs.ModelTerms.{RisesTo, variable_of, rises-to_last}

abbrev pub at_variable : ℕ → Term ℕ → Bool
at_variable v term = term.1 == v

-- ---- if no constraint contains a variable, it is none of the model's

none-passes : {X : Type 0} (p : X → Bool) (xs : List X) → list_any p xs ≡ false → AllByRecursion (λ x. p x ≡ false) xs
none-passes p xs none = none-pass p xs (grind (arith, any_or_none p xs))

module _ (v : ℕ) where
  abbrev IsOther : ℕ → Type 0
  IsOther x = x ≡ v → ⊥

  abbrev Lacks : LinearRow ℕ → Type 0
  Lacks row = OnTerms IsOther row.terms

  lack-all : (rows : List (LinearRow ℕ)) → list_any (occurs_in v) (map linear_constraint rows) ≡ false → AllByRecursion Lacks rows
  lack-all rows none =
      all-weaker (λ row. occurs_in v (linear_constraint row) ≡ false) Lacks (λ row out.
      all-weaker (λ term. at_variable v term ≡ false) (λ term. IsOther term.1) (λ term other same. grind (arith, nat_tests)) row.terms
      (none-passes (at_variable v) row.terms out)) rows
      (all-back (λ constraint. occurs_in v constraint ≡ false) linear_constraint rows
      (none-passes (occurs_in v) (map linear_constraint rows) none))

  range-other : (first count : ℕ) (coefficient : ℤ) → first ≤ v → OnTerms IsOther (times coefficient (range_with_len first count)) →
      first + count ≤ v
  range-other first zero coefficient from all = omega arith
  range-other first (suc n) coefficient from all = omega (arith, range-other (first + 1) n coefficient (omega (arith, all.0)) all.1)

  slack-other : (first : ℕ) (items : List (Item ℕ)) → first ≤ v → AllByRecursion Lacks (item_rows first items) →
      first + slack_count items ≤ v
  slack-other first [] from all = omega arith
  slack-other first (item ∷ items) from all =
      let slacks = AllByRecursion-back (λ (term : Term ℕ). IsOther term.1) item.terms _ all.0 in
      let later = slack-other (first + item.slacks) items (range-other first item.slacks (pos 1) from slacks.1) all.1 in
      omega (arith, later, sum_by-cons (λ (item : Item ℕ). item.slacks) item items)

  module _ (problem : Problem) (some : 0 < v) where
    -- the cell of its number is in the row of its nurse's day
    cell-other : AllByRecursion Lacks (map (numbered_row problem) (rule_rows problem)) → v < unit_number problem → ⊥
    cell-other all below =
        let c : Cell = cell_of_number problem v in
        let inside = cell_of_number-in problem v some below in
        let Q : Cell → Type 0 = λ one. IsOther (cell_number problem one) in
        let row = (h1-are problem).each (λ row. Lacks (numbered_row problem row))
        ((rows-are problem).each (λ row. Lacks (numbered_row problem row)) (all-back Lacks (numbered_row problem) (rule_rows problem) all)).0
        c.nurse inside.nurse_in c.day inside.day_in in
        let cells = all-back (λ (term : Term Cell). Q term.1) (λ one. (negsuc 0, one)) (work_cells problem c.nurse c.day)
        (all-back (λ (term : Term ℕ). IsOther term.1) (λ (term : Term Cell). (term.0, cell_number problem term.1)) _ row) in
        (work-are problem c.nurse c.day).each Q cells c.shift inside.shift_in c.skill inside.skill_in (cell_number-of problem v some below)

    other-is_none : v ≤ (model_of problem).variables → AllByRecursion Lacks (rows_of problem) → ⊥
    other-is_none within all =
        let parts = AllByRecursion-back Lacks (hard_rows problem) (item_rows (first_slack problem) (numbered_items problem)) all in
        let after : first_slack problem ≤ v = omega (arith, cell-other parts.0.1, parts.0.0.0) in
        let slacks = slack_count-numbered (cell_number problem) (soft_items problem) in
        omega (arith, slack-other (first_slack problem) (numbered_items problem) after parts.1)

-- ---- no other variable occurs in one

-- the consequence of an element that passes
from-passing : {X : Type 0} (p : X → Bool) (P : X → Type 0) (Q : Type 0) → ((x : X) → P x → p x ≡ true → Q) → (xs : List X) →
    AllByRecursion P xs → list_any p xs ≡ true → Q
from-passing p P Q each xs all passes =
    let found = Any-from_list_any p xs passes in each found.1 (subst P found.3 (All-from_recursion P xs all found.0 found.1 found.2)) found.4

pub occurs-exactly : (problem : Problem) (v : ℕ) → OccursInSome (model_of problem) v ↔ ((0 < v) × (v ≤ (model_of problem).variables))
occurs-exactly problem v =
    let end : ℕ = (model_of problem).variables + 1 in (
      from-passing (occurs_in v) (RisesTo end) _ (λ constraint rises.
          from-passing (at_variable v) (λ term. (1 ≤ term.1) × (term.1 < end)) _ (λ term is_in here.
          let is : term.1 ≡ v = eqb-true term.1 v here in (omega (arith, is_in.0), omega (arith, is_in.1))) constraint.terms
          (rises-between variable_of 1 end constraint.terms rises)) (model_of problem).constraints (rises-to_last problem),
      λ both.
          elim (cases_Bool (list_any (occurs_in v) (model_of problem).constraints)) [
            | inl occurs ↦ occurs
            | inr none ↦ absurd (other-is_none v problem both.0 both.1 (lack-all v (rows_of problem) none))
          ],
    )
