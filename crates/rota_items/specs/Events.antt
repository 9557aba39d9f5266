-- The events that send rows to a taker.
use Rattle.std.specs.Prelude.{ℕ, ℤ, List, [], ◌∷◌, ◌++◌, map}
use Rattle.std.specs.List.{flat_map}
use Rattle.rota_items.specs.declared.part.Part.{Part}
use Rattle.rota_items.specs.Linear.{Term}
use Rattle.rota_items.specs.Rows.{LinearRow}

pub data Event : Type 0 where
  start_row : Part → Event
  term : ℤ → ℕ → Event
  close_row : ℤ → Event

unfoldable pub term_events : List (Term ℕ) → List Event
term_events terms = map (λ (t : Term ℕ). term t.0 t.1) terms

-- the row starts, each term follows, and the degree ends it
abbrev pub row_events : LinearRow ℕ → List Event
row_events row = start_row row.part ∷ (term_events row.terms ++ close_row row.degree ∷ [])

unfoldable pub events : List (LinearRow ℕ) → List Event
events rows = flat_map row_events rows
