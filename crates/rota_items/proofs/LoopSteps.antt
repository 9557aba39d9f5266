-- Loops that send a taker one list at each step: step j of n sends the list f j. Before step i, the invariant names the taken lists,
-- and says how the loop goes on and stops from there. So neither needs an answer that names the calls of the step.
use Rattle.rota_items.proofs.Common.Imports.{ℕ, ◌<◌, List, Problem, Cell, Term, Item, LinearRow, numbered_rows, numbered_list, cell_term_events}
use Rattle.rota_items.proofs.Common.Imports.{concat_below, concat_below-zero, concat_below-more, ◌+◌, TookAll, RefusedOne}
use Rattle.rota_items.proofs.Taking.{both, nothing, loop_refused, rows_join, items_join, terms_join}
use Rattle.rota_items.specs.declared.hard.row_takers.RowTaker as row_taker
use Rattle.rota_items.specs.declared.items.item_takers.ItemTaker as item_taker
use Rattle.rota_items.specs.declared.takers.Taker.{Ghosts}

-- rows of the hard rules
module _ {S F : Type 0} (T : row_taker.Ghosts S F) (problem : Problem) where
  -- it took these
  abbrev TookRows : List (LinearRow Cell) → S → S → Type 0
  TookRows list old new = TookAll T.value T.step T.left (numbered_rows problem list) old new

  -- it refused one of these
  abbrev RefusedRow : List (LinearRow Cell) → S → S → Type 0
  RefusedRow list old new = RefusedOne T.value T.step T.left (numbered_rows problem list) old new

  -- the loop goes on if step i is taken, and stops if one of its rows is refused
  pub record StepOfRows (i n : ℕ) (f : ℕ → List (LinearRow Cell)) (old new : S) : Type 0 where
    pub goes_on : (last : S) → TookRows (f i) new last → TookRows (concat_below (i + 1) f) old last
    pub stops : i < n → (last : S) → RefusedRow (f i) new last → RefusedRow (concat_below n f) old last

  pub step_of_rows : (i n : ℕ) (f : ℕ → List (LinearRow Cell)) (old new : S) → TookRows (concat_below i f) old new → StepOfRows i n f old new
  step_of_rows i n f old new took = record {
    goes_on = λ last more. rw (concat_below-more i f) (both (rows_join problem) (concat_below i f) (f i) old new last took more);
    stops = λ below last refused. loop_refused (rows_join problem) i n f old new last below took refused;
  }

  -- before the first step
  pub no_rows : (f : ℕ → List (LinearRow Cell)) (s : S) → TookRows (concat_below 0 f) s s
  no_rows f s = rw (concat_below-zero f) (nothing (rows_join problem) s)

  -- the invariant of the loop
  abbrev pub RowSteps : ℕ → ℕ → (ℕ → List (LinearRow Cell)) → S → S → Type 0
  RowSteps i n f old new = TookRows (concat_below i f) old new × StepOfRows i n f old new

-- items
module _ {S F : Type 0} (T : item_taker.Ghosts S F) (problem : Problem) where
  -- it took these
  abbrev TookItems : List (Item Cell) → S → S → Type 0
  TookItems list old new = TookAll T.value T.step T.left (numbered_list problem list) old new

  -- it refused one of these
  abbrev RefusedItem : List (Item Cell) → S → S → Type 0
  RefusedItem list old new = RefusedOne T.value T.step T.left (numbered_list problem list) old new

  -- the loop goes on if step i is taken, and stops if one of its items is refused
  pub record StepOfItems (i n : ℕ) (f : ℕ → List (Item Cell)) (old new : S) : Type 0 where
    pub goes_on : (last : S) → TookItems (f i) new last → TookItems (concat_below (i + 1) f) old last
    pub stops : i < n → (last : S) → RefusedItem (f i) new last → RefusedItem (concat_below n f) old last

  pub step_of_items : (i n : ℕ) (f : ℕ → List (Item Cell)) (old new : S) → TookItems (concat_below i f) old new → StepOfItems i n f old new
  step_of_items i n f old new took = record {
    goes_on = λ last more. rw (concat_below-more i f) (both (items_join problem) (concat_below i f) (f i) old new last took more);
    stops = λ below last refused. loop_refused (items_join problem) i n f old new last below took refused;
  }

  -- before the first step
  pub no_items : (f : ℕ → List (Item Cell)) (s : S) → TookItems (concat_below 0 f) s s
  no_items f s = rw (concat_below-zero f) (nothing (items_join problem) s)

  -- the invariant of the loop
  abbrev pub ItemSteps : ℕ → ℕ → (ℕ → List (Item Cell)) → S → S → Type 0
  ItemSteps i n f old new = TookItems (concat_below i f) old new × StepOfItems i n f old new

-- terms on cells
module _ {S F : Type 0} (T : Ghosts S F) (problem : Problem) where
  -- it took these
  abbrev TookTerms : List (Term Cell) → S → S → Type 0
  TookTerms list old new = TookAll T.value T.step T.left (cell_term_events problem list) old new

  -- it refused one of these
  abbrev RefusedTerm : List (Term Cell) → S → S → Type 0
  RefusedTerm list old new = RefusedOne T.value T.step T.left (cell_term_events problem list) old new

  -- the loop goes on if step i is taken, and stops if one of its terms is refused
  pub record StepOfTerms (i n : ℕ) (f : ℕ → List (Term Cell)) (old new : S) : Type 0 where
    pub goes_on : (last : S) → TookTerms (f i) new last → TookTerms (concat_below (i + 1) f) old last
    pub stops : i < n → (last : S) → RefusedTerm (f i) new last → RefusedTerm (concat_below n f) old last

  pub step_of_terms : (i n : ℕ) (f : ℕ → List (Term Cell)) (old new : S) → TookTerms (concat_below i f) old new → StepOfTerms i n f old new
  step_of_terms i n f old new took = record {
    goes_on = λ last more. rw (concat_below-more i f) (both (terms_join problem) (concat_below i f) (f i) old new last took more);
    stops = λ below last refused. loop_refused (terms_join problem) i n f old new last below took refused;
  }

  -- before the first step
  pub no_terms : (f : ℕ → List (Term Cell)) (s : S) → TookTerms (concat_below 0 f) s s
  no_terms f s = rw (concat_below-zero f) (nothing (terms_join problem) s)

  -- the invariant of the loop
  abbrev pub TermSteps : ℕ → ℕ → (ℕ → List (Term Cell)) → S → S → Type 0
  TermSteps i n f old new = TookTerms (concat_below i f) old new × StepOfTerms i n f old new

-- the rules that a loop needs, once the definition of its list is unfolded
pub ruleset row_loops = (no_rows, step_of_rows)

pub ruleset item_loops = (no_items, step_of_items)

pub ruleset term_loops = (no_terms, step_of_terms)
