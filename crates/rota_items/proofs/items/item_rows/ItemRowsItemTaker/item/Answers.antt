use Rattle.rota_items.proofs.Common.{w64, rules, ap, both, go_on, numbers_join, refl, row-is, row_refused, row_taken, row_unclosed, row_unstarted, stop}
use Rattle.rota_items.proofs.Common.{to_z-of_z, cell_term_events, ◌≡◌, ◌+◌, ℕ, List, Event, Ghosts, MatchResult-from_err, Refused, RefusedFrom}
use Rattle.rota_items.proofs.ItemRows.{row_handed}
use Rattle.rota_items.proofs.items.item_rows.ItemRowsItemTaker.item.Goals as goal

-- the taker of rows kept its name, and refused one of the row's events
refusal : {S F : Type 0} (T : Ghosts S F) {row : List Event} {name : ℕ} (old : S) {new : S} → Refused T row old new →
    (name ≡ name) × RefusedFrom T.value T.step T.left (T.value old) row new
refusal T old refused = (refl, record { old = old; old_is = refl; refused = refused })

pub returns-in_err-start_row : goal.returns-in_err-start_row
returns-in_err-start_row g c =
    let item = c.within_numbers-item.ensures.item in
    MatchResult-from_err _ _ _ c.from_residual.ensures.0
    (λ _. refusal g.T.Taker c.args.self.now.taker.now
    (row_unstarted g.T.Taker (row-is _) _ _ (rw (c.from.ensures, item) at c.in_err-start_row.ensures)))

pub returns-in_err-emit_sum : goal.returns-in_err-emit_sum
unfolding cell_term_events
returns-in_err-emit_sum g c =
    let item = c.within_numbers-item.ensures.item in
    MatchResult-from_err _ _ _ c.from_residual-in_err-emit_sum.ensures.0
    (λ _. refusal g.T.Taker c.args.self.now.taker.now
    (row_refused g.T.Taker (row-is _) _ _ (rw (c.from.ensures, item) at c.in_ok-start_row.ensures) _
    (stop numbers_join _ _ _ _ (rw item at c.in_err-emit_sum.ensures))))

pub returns-in_err-emit_range : goal.returns-in_err-emit_range
unfolding cell_term_events
returns-in_err-emit_range g c =
    let item = c.within_numbers-item.ensures.item in
    MatchResult-from_err _ _ _ c.from_residual-in_err-emit_range.ensures.0
    (λ _. refusal g.T.Taker c.args.self.now.taker.now
    (row_refused g.T.Taker (row-is _) _ _ (rw (c.from.ensures, item) at c.in_ok-start_row.ensures) _
    (go_on numbers_join _ _ _ _ _ (rw item at c.in_ok-emit_sum.ensures) (rw item at c.in_err-emit_range.ensures))))

pub returns-in_err-close_row : goal.returns-in_err-close_row
unfolding cell_term_events
returns-in_err-close_row g c =
    let item = c.within_numbers-item.ensures.item in
    let exact = to_z-of_z w64 c.args.item.degree (search rules) in
    MatchResult-from_err _ _ _ c.from_residual-in_err-close_row.ensures.0
    (λ _. refusal g.T.Taker c.args.self.now.taker.now
    (row_unclosed g.T.Taker (row-is _) _ _ (rw (c.from.ensures, item) at c.in_ok-start_row.ensures) _ _
    (both numbers_join _ _ _ _ _ (rw item at c.in_ok-emit_sum.ensures) (rw item at c.in_ok-emit_range.ensures))
    (rw (item, exact) at c.in_err-close_row.ensures)))

pub returns : goal.returns
unfolding cell_term_events
returns g c =
    let item = c.within_numbers-item.ensures.item in
    let exact = to_z-of_z w64 c.args.item.degree (search rules) in
    row_handed g.T.Taker _ _ _ _ refl _ (ap (λ n. c.args.self.now.next + n) (ap (λ i. i.slacks) item))
    (row_taken g.T.Taker (row-is _) _ _ (rw (c.from.ensures, item) at c.in_ok-start_row.ensures) _ _
    (both numbers_join _ _ _ _ _ (rw item at c.in_ok-emit_sum.ensures) (rw item at c.in_ok-emit_range.ensures))
    (rw (item, exact) at c.in_ok-close_row.ensures))
