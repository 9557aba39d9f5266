-- The results of sending the rows of the hard rules to a taker of events and to a counter.
use Rattle.rota_items.proofs.Common.Imports.{◌≡◌, ℕ, ◌+◌, ◌≤◌, min, List, [], ◌∷◌, length, refl, sym, ◌∙◌, arith, fold, fold-append}
use Rattle.rota_items.proofs.Common.Imports.{LinearRow, Event, events, Result, MatchResult, MatchResult-weaker, Takes, row_events}
use Rattle.rota_items.proofs.Common.Imports.{max_count, RefusedFrom, TookAll, RefusedOne, Took, Refused, one_row_more, with_row, Ghosts}
use Rattle.rota_items.proofs.Taking.{events_join, Refused-before, Refused-after}

-- the taker refused one of the row's events
abbrev pub RefusesRow : {S F : Type 0} → (T : Ghosts S F) → T.Value → LinearRow ℕ → S → Type 0
RefusesRow T before row new = RefusedFrom T.value T.step T.left before (row_events row) new

fold-rows : {V : Type 0} (step : V → Event → V) (rows : List (LinearRow ℕ)) (value : V) →
    fold (with_row step) value rows ≡ fold step value (events rows)
unfolding events
fold-rows step [] value = refl
fold-rows step (row ∷ rows) value = fold-rows step rows (with_row step value row) ∙ sym (fold-append step value (row_events row) (events rows))

module _ {S F : Type 0} (T : Ghosts S F) (rows : List (LinearRow ℕ)) (s t : S) where
  pub rows_taken : TookAll T.value (with_row T.step) (RefusesRow T) rows s t → Took T (events rows) s t
  rows_taken took = record { value_is = took.value_is ∙ fold-rows T.step rows (T.value s) }

  pub rows_refused : RefusedOne T.value (with_row T.step) (RefusesRow T) rows s t → Refused T (events rows) s t
  unfolding events
  rows_refused refused =
      rw (refused.are, events_join.append refused.taken (refused.event ∷ refused.rest))
      (Refused-after (events refused.taken) _ s refused.leaves.old t
      (record { value_is = refused.leaves.old_is ∙ fold-rows T.step refused.taken (T.value s) })
      (Refused-before (row_events refused.event) (events refused.rest) refused.leaves.old t refused.leaves.refused))

-- a row's events, taken one by one
pub takes_row : {S F R : Type 0} (T : Ghosts S F) (row : LinearRow ℕ) (s t : S) (r : Result R F) → Takes T (row_events row) s t r →
    MatchResult r (λ _. T.value t ≡ with_row T.step (T.value s) row) (λ _. RefusesRow T (T.value s) row t)
takes_row T row s t r takes = MatchResult-weaker r takes (λ _ took. took.value_is) (λ _ refused. record { old = s; old_is = refl; refused = refused })

pub rows-counted : (rows : List (LinearRow ℕ)) (n : ℕ) → n ≤ max_count → fold one_row_more n rows ≡ min (n + length rows) max_count
rows-counted [] n fits = omega arith
rows-counted (row ∷ rows) n fits = rows-counted rows (one_row_more n row) (omega arith) ∙ omega arith
