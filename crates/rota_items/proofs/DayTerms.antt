-- How a taker takes the terms of days, day by day.
use Rattle.rota_items.proofs.Common.Imports.{◌≡◌, ℕ, ◌+◌, ◌-◌, ◌≤◌, ◌<◌, List, [], ◌∷◌, length, ap, ◌∙◌, arith, flat_map, append-nil, flat_map-append}
use Rattle.rota_items.proofs.Common.Imports.{get_or-map-range_with_len, length-map-range_with_len, map-range_with_len_more, take-map-range_with_len}
use Rattle.rota_items.proofs.Common.Imports.{Problem, Cell, Term, PatternDay, with_property, days_with, cell_term_events, Event, Took, Refused, Ghosts}
use Rattle.rota_items.proofs.Taking.{Joins, list_refused, terms_join, taking, nothing, both}

-- the rules that an optional day needs
pub ruleset day_taking = (taking, append-nil)

-- the events of days' terms
module _ (problem : Problem) (f : PatternDay → List (Term Cell)) where
  abbrev pub day_events : List PatternDay → List Event
  day_events days = cell_term_events problem (flat_map f days)

  pub days_join : Joins day_events
  days_join = record {
    none = (terms_join problem).none;
    append = λ xs ys. ap (cell_term_events problem) (flat_map-append f xs ys) ∙ (terms_join problem).append (flat_map f xs) (flat_map f ys);
  }

  module _ {S F : Type 0} (T : Ghosts S F) (first day : ℕ) where
    pub days_none : (s : S) → Took T (day_events (days_with first first)) s s
    days_none s = let none : first - first ≡ 0 = omega arith in rw none (nothing days_join s)

    pub days_more : (s t u : S) → first ≤ day → Took T (day_events (days_with first day)) s t →
        Took T (cell_term_events problem (f (with_property day))) t u → Took T (day_events (days_with first (day + 1))) s u
    days_more s t u ordered p q =
        let longer : day + 1 - first ≡ day - first + 1 = omega arith in
        rw (longer, map-range_with_len_more with_property first (day - first) day (omega arith))
        (both days_join (days_with first day) (with_property day ∷ []) s t u p (rw append-nil q))

    pub days_refused : (end : ℕ) (s t u : S) → first ≤ day → day < end → Took T (day_events (days_with first day)) s t →
        Refused T (cell_term_events problem (f (with_property day))) t u → Refused T (day_events (days_with first end)) s u
    days_refused end s t u ordered below p q =
        let within : day - first < length (days_with first end) =
        omega (arith, length-map-range_with_len with_property first (end - first)) in
        list_refused (terms_join problem) f (days_with first end) (day - first) (with_property day) s t u within
        (rw (take-map-range_with_len with_property first (end - first) (day - first) (omega arith)) p)
        (rw (get_or-map-range_with_len with_property first (end - first) (day - first) day (with_property day) (omega arith) (omega arith)) q)
