-- The truth values of an extension, part by part and by variable.
use Rattle.rota_judge.proofs.Common.Imports.{◌≡◌, ℕ, zero, suc, ◌+◌, ◌<◌, ◌≤◌, Bool, List, [], ◌∷◌, ◌++◌, map, length, refl, sym, ap}
use Rattle.rota_judge.proofs.Common.Imports.{◌∙◌, arith, append_assoc, append-nil, flat_map, range_with_len, map-range_with_len_more}
use Rattle.rota_judge.proofs.Common.Imports.{get_or-map-range_with_len, length-map-range_with_len, concat_below, Roster, Problem, Cell}
use Rattle.rota_judge.proofs.Common.Imports.{InWeek, Item, shortage, slack_count, soft_items, cell_number, unit_number, first_slack}
use Rattle.rota_judge.proofs.Common.Imports.{numbered_items, model_of, roster_of, truth_of, assignment_of, extension_of, is_slack_needed}
use Rattle.rota_core.proofs.LogicWords.{concat_below-same}
use Rattle.rota_judge.proofs.Extension.{extension-below, extension-roster}
use Rattle.rota_judge.proofs.ItemLaw.{extension-extends, needed-first, needed-after}
use Rattle.rota_items.proofs.ItemLemmas.{cell_number-below, slack_count-cons, slack_count-numbered}
use Rattle.rota_judge.specs.ExtensionTruths.{extension_truths, truths_to}
use Rattle.rota_judge.specs.SlackValues.{first_true, slack_truths, truths_below}

-- ---- truth values of the indices below a number

truths-range : (count : ℕ) (truth : ℕ → Bool) → truths_below count truth ≡ map truth (range_with_len 0 count)
unfolding concat_below
truths-range zero truth = refl
truths-range (suc n) truth =
    let next : n + 1 ≡ suc n = omega arith in
    rw (truths-range n truth) (sym (map-range_with_len_more truth 0 n n (omega arith)) ∙ ap (λ m. map truth (range_with_len 0 m)) next)

-- the truth values of some indices, and then of the indices that follow
truths-joined : (a b : ℕ) (one other all : ℕ → Bool) → ((i : ℕ) → i < a → one i ≡ all i) → ((i : ℕ) → i < b → other i ≡ all (a + i)) →
    truths_below a one ++ truths_below b other ≡ truths_below (a + b) all
unfolding concat_below
truths-joined a zero one other all first after =
    let same : a + 0 ≡ a = omega arith in
    rw (append-nil, same) (concat_below-same a _ _ (λ i below. ap (λ (b : Bool). b ∷ []) (first i below)))
truths-joined a (suc b) one other all first after =
    let next : a + suc b ≡ suc (a + b) = omega arith in
    rw (next, ← append_assoc, truths-joined a b one other all first (λ i below. after i (omega arith)), after b (omega arith)) refl

-- ---- the slacks of items

module _ (assignment : ℕ → Bool) where
  -- the first truth values of an item are true, and their number is its shortage
  abbrev pub item_truths : Item ℕ → List Bool
  item_truths item = first_true item.slacks (shortage assignment item)

  pub items-truths : (items : List (Item ℕ)) → flat_map item_truths items ≡ truths_below (slack_count items) (is_slack_needed assignment items)
  unfolding concat_below
  items-truths [] = refl
  items-truths (item ∷ items) =
      rw (items-truths items, slack_count-cons item items)
      (truths-joined item.slacks (slack_count items) _ _ (is_slack_needed assignment (item ∷ items))
      (λ index below. sym (needed-first assignment item items index below)) (λ index below. sym (needed-after assignment item items index)))

-- ---- all variables of a week

module _ (problem : Problem) (roster : Roster) where
  abbrev value : ℕ → Bool
  value index = extension_of problem roster (index + 1)

  pub week-slacks : flat_map (item_truths (assignment_of problem roster)) (numbered_items problem) ≡ slack_truths problem roster
  week-slacks = rw (← slack_count-numbered (cell_number problem) (soft_items problem)) (items-truths (assignment_of problem roster) (numbered_items problem))

  -- the truth values of the cells and the unit variable, and then of the slacks
  pub truths-parts : truths_to (unit_number problem) (assignment_of problem roster) ++ slack_truths problem roster ≡ extension_truths problem roster
  truths-parts =
      truths-joined (unit_number problem) (slack_count (soft_items problem)) _ _ value
      (λ index below. sym (extension-below problem roster (index + 1) (omega (arith, below))))
      (λ index below.
      let next : unit_number problem + index + 1 ≡ first_slack problem + index = omega arith in
      sym (ap (extension_of problem roster) next ∙ extension-extends (assignment_of problem roster) (first_slack problem) (numbered_items problem) index))

  pub truths-count : length (extension_truths problem roster) ≡ (model_of problem).variables
  truths-count = rw (truths-range (model_of problem).variables value) (length-map-range_with_len value 0 (model_of problem).variables)

  pub truths-values : (v : ℕ) → 0 < v → v ≤ (model_of problem).variables → truth_of (extension_truths problem roster) v ≡ extension_of problem roster v
  truths-values zero positive below = absurd (omega (arith, positive))
  truths-values (suc index) positive below =
      let next : index + 1 ≡ suc index = omega arith in
      rw (truths-range (model_of problem).variables value)
      (get_or-map-range_with_len value 0 (model_of problem).variables index index _ (omega (arith, below)) (omega arith) ∙
      ap (extension_of problem roster) next)

  pub truths-roster : (cell : Cell) → InWeek problem cell → roster_of problem (truth_of (extension_truths problem roster)) cell ≡ roster cell
  truths-roster cell inside =
      truths-values (cell_number problem cell) (omega arith) (omega (arith, cell_number-below problem cell inside)) ∙ extension-roster problem roster cell inside
