-- How rows of the hard rules, and items by their rows or the weights of their slacks, are sent on to a taker of events.
use Rattle.std.specs.Prelude.{◌≡◌, ℕ, ◌+◌, ◌-◌, min, pos, List}
use Rattle.std.specs.List.{fold}
use Rattle.rota_items.specs.Events.{Event, row_events, term_events}
use Rattle.rota_items.specs.Rows.{Item, LinearRow, times}
use Rattle.rota_items.specs.MachineBounds.{max_count}
use Rattle.rota_items.specs.WeekModel.{item_row, slack_variables}
use Rattle.rota_items.specs.Takes.{RefusedFrom}
use Rattle.rota_items.specs.declared.takers.Taker.{Ghosts}

-- the value after the events of a hard rule's row
abbrev pub with_row : {V : Type 0} → (V → Event → V) → V → LinearRow ℕ → V
with_row step value row = fold step value (row_events row)

-- the events of an item's row, whose first slack has this number
abbrev pub row_of_item : Item ℕ → ℕ → List Event
row_of_item item first = row_events (item_row item first)

-- the events of its slacks' weights
abbrev pub weights_of_item : Item ℕ → ℕ → List Event
weights_of_item item first = term_events (times (pos item.weight) (slack_variables item first))

-- the number of these slacks for which there are numbers, from this one on
abbrev pub slacks_within : ℕ → ℕ → ℕ
slacks_within first slacks = min slacks (max_count - first)

abbrev pub within_numbers : ℕ → Item ℕ → Item ℕ
within_numbers first item = record item { slacks = slacks_within first item.slacks }

-- the taker of rows by its name, its abstract value, and the number of the next slack
pub record RowsState (V : Type 0) : Type 0 where
  pub name : ℕ
  pub value : V
  pub next : ℕ

-- the value after the events of the item, whose slacks have their numbers
abbrev pub with_item : {V : Type 0} → (V → Event → V) → (Item ℕ → ℕ → List Event) → RowsState V → Item ℕ → RowsState V
with_item step events_of rows_state item = record rows_state {
  value = fold step rows_state.value (events_of (within_numbers rows_state.next item) rows_state.next);
  next = rows_state.next + slacks_within rows_state.next item.slacks;
}

-- the same taker of rows refused one of the item's events
abbrev pub StopsAtRow : {S F : Type 0} → (T : Ghosts S F) → (Item ℕ → ℕ → List Event) → RowsState T.Value → Item ℕ → ℕ → S → Type 0
StopsAtRow T events_of before item name new =
    (name ≡ before.name) × RefusedFrom T.value T.step T.left before.value (events_of (within_numbers before.next item) before.next) new
