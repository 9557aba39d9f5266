-- The items of rules that charge each nurse, and of runs, in the order of the loops that send them.
use Rattle.rota_items.proofs.Common.Imports.{◌≡◌, ℕ, ◌++◌, map, ap, ◌∙◌, map-append, concat_below, Item, Runs, pattern_item, run_items}
use Rattle.rota_items.proofs.Common.Imports.{Pattern, closed_patterns_at, closed_patterns_on, edge_patterns_on, patterns, patterns_on}
use Rattle.rota_items.proofs.Common.Imports.{windows, windows_on, window_items_on, closed_items_at, pattern_items, pattern_items_on}
use Rattle.rota_items.proofs.Common.Imports.{zero, suc, List, [], ◌∷◌, length, refl, arith, AllByRecursion, sum_by-cons, Problem, Rule}
use Rattle.rota_items.proofs.Common.Imports.{Cell, nurse_items, items_of_rule, slack_count, optimum_items, append-nil}
use Rattle.rota_items.proofs.LogicWords.{map-concat_below}
use Rattle.rota_items.proofs.EachPattern.{each-run_item}

-- ---- the items of runs

module _ {X : Type 0} (runs : Runs X) where
  abbrev item : Pattern → Item X
  item = pattern_item runs.rule runs.weight runs.property

  pub pattern_items-on : (d : ℕ) →
      pattern_items_on runs d ≡ concat_below d (closed_items_at runs d) ++ pattern_items runs (edge_patterns_on runs.history runs.limits.min d)
  pattern_items-on d =
      map-append item (closed_patterns_on runs.limits.min d) (edge_patterns_on runs.history runs.limits.min d) ∙
      ap (λ xs. xs ++ map item (edge_patterns_on runs.history runs.limits.min d)) (map-concat_below item d (closed_patterns_at runs.limits.min d))

  pub run_items-are : run_items runs ≡ concat_below 7 (window_items_on runs) ++ concat_below 7 (pattern_items_on runs)
  run_items-are =
      map-append item (windows runs.history runs.limits) (patterns runs.history runs.limits) ∙
      ap (λ xs. xs ++ map item (patterns runs.history runs.limits))
      (map-concat_below item 7 (windows_on runs.history runs.limits)) ∙
      ap (λ xs. concat_below 7 (window_items_on runs) ++ xs)
      (map-concat_below item 7 (patterns_on runs.history runs.limits))

-- ---- the items of rules that charge each nurse

pub none-concat_below : {A : Type 0} (n : ℕ) → [] ≡ concat_below n (λ _. let none : List A = [] in none)
unfolding concat_below
none-concat_below zero = refl
none-concat_below {A} (suc n) = rw (← none-concat_below {A = A} n) refl

pub none_of_nurses : {A : Type 0} (problem : Problem) (xs : List A) → xs ++ concat_below problem.nurses (λ _. []) ≡ xs
none_of_nurses problem xs = rw (← none-concat_below problem.nurses) (append-nil xs)

pub items_of_nurses : (problem : Problem) (rule : Rule) → (rule ≡ Rule.S1 → ⊥) →
    items_of_rule problem rule ≡ concat_below problem.nurses (nurse_items problem rule)
items_of_nurses problem Rule.S1 other = absurd (other refl)
items_of_nurses problem _ other = refl

pub demand_items-are : (problem : Problem) (rule : Rule) → rule ≡ Rule.S1 → items_of_rule problem rule ≡ optimum_items problem
demand_items-are problem rule is = rw is (none_of_nurses problem (optimum_items problem))

-- ---- items of one slack

abbrev pub HasOneSlack : Item Cell → Type 0
HasOneSlack item = item.slacks ≡ 1

pub one_slack-each : (items : List (Item Cell)) → AllByRecursion HasOneSlack items → slack_count items ≡ length items
one_slack-each [] all = refl
one_slack-each (item ∷ items) all = omega (arith, sum_by-cons (λ (i : Item Cell). i.slacks) item items, all.0, one_slack-each items all.1)

pub have_one-runs : (runs : Runs Cell) → AllByRecursion HasOneSlack (run_items runs)
have_one-runs runs = each-run_item runs HasOneSlack (λ pattern is. refl)
