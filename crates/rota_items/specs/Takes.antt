-- The part that a taker took of a list: of the events of rows, of rows of the hard rules, or of items.
use Rattle.std.specs.Prelude.{◌≡◌, List, ◌∷◌, ◌++◌, Result, MatchResult}
use Rattle.std.specs.List.{fold}
use Rattle.rota_core.specs.declared.values.Cell.{Cell}
use Rattle.rota_core.specs.Problem.{Problem}
use Rattle.rota_items.specs.Events.{Event}
use Rattle.rota_items.specs.SentItems.{numbered_list, numbered_rows}
use Rattle.rota_items.specs.Rows.{Item, LinearRow}
use Rattle.rota_items.specs.declared.hard.row_takers.RowTaker as row_taker
use Rattle.rota_items.specs.declared.items.item_takers.ItemTaker as item_taker
use Rattle.rota_items.specs.declared.takers.Taker.{Ghosts}

-- the abstract value of a taker, a step of that value, and the state after a refusal
module _ {S V E : Type 0} (value : S → V) (step : V → E → V) (left : V → E → S → Type 0) where
  -- the taker took all of these
  pub record TookAll (list : List E) (old new : S) : Type 0 where
    pub value_is : value new ≡ fold step (value old) list

  -- the taker took a prefix of these and refused the next one
  pub record RefusedOne (list : List E) (old new : S) : Type 0 where
    pub taken : List E
    pub event : E
    pub rest : List E
    pub are : list ≡ taken ++ event ∷ rest
    pub leaves : left (fold step (value old) taken) event new

  -- `Ok` if it took them all, `Err` if it refused one
  abbrev pub TakesAll : {R F : Type 0} → List E → S → S → Result R F → Type 0
  TakesAll list old new result = MatchResult result (λ _. TookAll list old new) (λ _. RefusedOne list old new)

  -- the taker had this value and refused one of these
  pub record RefusedFrom (before : V) (list : List E) (new : S) : Type 0 where
    pub old : S
    pub old_is : value old ≡ before
    pub refused : RefusedOne list old new

-- a taker of the events of rows
module _ {Self Fault : Type 0} (T : Ghosts Self Fault) where
  abbrev pub Took : List Event → Self → Self → Type 0
  Took = TookAll T.value T.step T.left

  abbrev pub Refused : List Event → Self → Self → Type 0
  Refused = RefusedOne T.value T.step T.left

  abbrev pub Takes : {R : Type 0} → List Event → Self → Self → Result R Fault → Type 0
  Takes events old new result = TakesAll T.value T.step T.left events old new result

-- a taker of the rows of the hard rules, and of items
abbrev pub TakesRows : {S F R : Type 0} → row_taker.Ghosts S F → Problem → List (LinearRow Cell) → S → S → Result R F → Type 0
TakesRows T problem rows old new result = TakesAll T.value T.step T.left (numbered_rows problem rows) old new result

abbrev pub TakesItems : {S F R : Type 0} → item_taker.Ghosts S F → Problem → List (Item Cell) → S → S → Result R F → Type 0
TakesItems T problem items old new result = TakesAll T.value T.step T.left (numbered_list problem items) old new result
