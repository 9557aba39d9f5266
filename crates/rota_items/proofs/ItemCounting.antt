-- The counts of a counter for a list of items.
use Rattle.rota_items.proofs.Common.Imports.{◌≡◌, ℕ, ◌+◌, ◌<◌, List, [], ◌∷◌, ◌++◌, length, refl, ap, ◌∙◌, arith, length-append, fold, length-map}
use Rattle.rota_items.proofs.Common.Imports.{InstanceTables, IsInstance, problem_of, Problem, Cell, soft_items, Item, numbered, slack_count, cell_number}
use Rattle.rota_items.proofs.Common.Imports.{Runs, pattern_item, run_items, patterns, windows, word_limit, numbered_list, ItemNumbers, sum_within, with_one}
use Rattle.rota_rules.proofs.CostLemmas.{instance-within_limits}
use Rattle.rota_items.proofs.ItemLists.{have_one-runs, one_slack-each}
use Rattle.rota_items.proofs.SlackBound.{items-few, variables_fit, slack_count-cons}

same_numbers : (a b m n : ℕ) → a ≡ b → m ≡ n → ◌≡◌ {A = ItemNumbers} (record { items = a; slacks = m }) (record { items = b; slacks = n })
same_numbers a b m n e f = rw (e, f) refl

-- both numbers fit
pub record AreWithin (counts : ItemNumbers) : Type 0 where
  pub items : counts.items < word_limit
  pub slacks : counts.slacks < word_limit

pub counted-all : (problem : Problem) (items : List (Item Cell)) (counts : ItemNumbers) → AreWithin counts →
    fold with_one counts (numbered_list problem items) ≡
    record { items = sum_within counts.items (length items); slacks = sum_within counts.slacks (slack_count items) }
unfolding numbered_list
counted-all problem [] counts within = same_numbers _ _ _ _ (omega arith) (omega arith)
counted-all problem (item ∷ items) counts within =
    counted-all problem items (with_one counts (numbered (cell_number problem) item)) (record { items = omega arith; slacks = omega arith }) ∙
    same_numbers _ _ _ _ (omega arith) (omega (arith, slack_count-cons item items))

-- the items of a nurse's runs have one slack each, and their number is the number of these windows and patterns
pub counted-runs : (problem : Problem) (runs : Runs Cell) (counts : ItemNumbers) (n : ℕ) → AreWithin counts →
    n ≡ length (windows runs.history runs.limits) + length (patterns runs.history runs.limits) →
    fold with_one counts (numbered_list problem (run_items runs)) ≡ record { items = sum_within counts.items n; slacks = sum_within counts.slacks n }
counted-runs problem runs counts n within are =
    let listed : length (run_items runs) ≡ n =
    omega (
      arith,
      length-map (windows runs.history runs.limits ++ patterns runs.history runs.limits) (pattern_item runs.rule runs.weight runs.property),
      length-append (windows runs.history runs.limits) (patterns runs.history runs.limits),
    ) in
    counted-all problem (run_items runs) counts within ∙
    same_numbers _ _ _ _ (ap (sum_within counts.items) listed)
    (ap (sum_within counts.slacks) (one_slack-each (run_items runs) (have_one-runs runs) ∙ listed))

-- a counter that took the items of a week has their numbers, which do not overflow
pub week_counted : (tables : InstanceTables) → IsInstance tables → let items = soft_items (problem_of tables) in
    fold with_one (record { items = 0; slacks = 0 }) (numbered_list (problem_of tables) items) ≡ record { items = length items; slacks = slack_count items }
week_counted tables valid =
    let problem = problem_of tables in
    let limits = instance-within_limits tables valid in
    counted-all problem (soft_items problem) (record { items = 0; slacks = 0 }) (record { items = omega arith; slacks = omega arith }) ∙
    same_numbers _ _ _ _ (omega (arith, items-few problem limits)) (omega (arith, variables_fit problem limits))
