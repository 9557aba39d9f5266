-- A day's window and patterns charge the cost of the run on that day.
use Rattle.rota_items.proofs.Common.Imports.{◌≡◌, ℕ, zero, suc, ◌+◌, ◌-◌, ◌<◌, ◌≤◌, Bool, ◌&&◌, not, cond, true, ◌⊎◌, inr, List, ◌∷◌, [], ◌++◌}
use Rattle.rota_items.proofs.Common.Imports.{refl, map, ap, arith, add-one, ltb, leb, nat_lt, nat_le, list_all, range_with_len, sum_by, list_all-append}
use Rattle.rota_items.proofs.Common.Imports.{sum_by-append, nat_tests, concat_below, Span, PatternDay, Pattern, with_property, without_property}
use Rattle.rota_items.proofs.Common.Imports.{days_with, windows_on, closed_patterns_at, patterns_on, run_length, is_over, missing_on}
use Rattle.rota_items.proofs.LogicWords.{sum_by-singleton_if}

-- whether the day matches the pattern
abbrev pub agrees : Bool → Bool → Bool
agrees b wanted = cond wanted b (not b)

abbrev pub matches_day : (ℕ → Bool) → PatternDay → Bool
matches_day has day = agrees (has day.day) day.has

abbrev pub matches : (ℕ → Bool) → List PatternDay → Bool
matches has days = list_all (matches_day has) days

-- the units that a pattern charges, and the units of a list of patterns
abbrev pub units_of : (ℕ → Bool) → Pattern → ℕ
units_of has pattern = cond (matches has pattern.days) pattern.units 0

abbrev pub units : (ℕ → Bool) → List Pattern → ℕ
units has all = sum_by (units_of has) all

module _ (has : ℕ → Bool) (history : ℕ) where
  abbrev length_at : ℕ → ℕ
  length_at d = run_length has history d

  -- a run is shorter than the week so far, or fills it after the history
  is_run : (d : ℕ) → (length_at d < d) ⊎ (length_at d ≡ history + d)
  is_run zero = inr (omega arith)
  is_run (suc d) = grind (arith, is_run d)

  -- a day before a run belongs to it if and only if the run is longer
  longer : (first k d : ℕ) → first + k + 1 ≡ d → (has first && leb k (length_at d)) ≡ leb (suc k) (length_at d)
  longer first k zero same = absurd (omega arith)
  longer first zero (suc d) same = let here : first ≡ d = omega arith in grind (arith, nat_tests, ap has here)
  longer first (suc k) (suc d) same = grind (arith, nat_tests, longer first k d (omega arith))

  -- all consecutive days have the property if and only if the run after them is at least as long as they are
  matches-run : (first k d : ℕ) → first + k ≡ d → matches has (map with_property (range_with_len first k)) ≡ leb k (length_at d)
  matches-run first zero d same = grind (arith, nat_tests)
  matches-run first (suc k) d same = rw (matches-run (first + 1) k d (omega arith)) (longer first k d (omega arith))

  -- consecutive days with the property and a day after them without it
  matches-ended : (first k d : ℕ) → first + k ≡ d →
      matches has (days_with first d ++ without_property d ∷ []) ≡ (leb k (length_at d) && (not (has d) && true))
  matches-ended first k d same =
      let count : d - first ≡ k = omega arith in
      rw (count, list_all-append (matches_day has) (map with_property (range_with_len first k)), matches-run first k d same) refl

  pub units-windows_on : (d : ℕ) (limits : Span) → units has (windows_on history limits d) ≡ cond (is_over has history limits.max d) 1 0
  units-windows_on d limits =
      rw (sum_by-singleton_if, add-one d, matches-run (d - limits.max) (suc d - (d - limits.max)) (suc d) (omega arith))
      (grind (arith, nat_tests, is_run (suc d)))

  -- the closed patterns of runs below a number of days charge the shortage of the run, if it is one of these
  units-closed : (minimum d n : ℕ) → n ≤ d → units has (concat_below n (closed_patterns_at minimum d)) ≡ cond (ltb (length_at d) n)
      (cond (nat_le 1 (length_at d) && nat_lt (length_at d) minimum) (cond (not (has d)) (minimum - length_at d) 0) 0) 0
  unfolding concat_below
  units-closed minimum d zero inside = grind (arith, nat_tests)
  units-closed minimum d (suc k) inside =
      rw (sum_by-append, units-closed minimum d k (omega arith), sum_by-singleton_if, matches-ended (d - k) k d (omega arith))
      (grind (arith, nat_tests, longer (d - k - 1) k d (omega arith)))

  pub units-patterns_on : (d : ℕ) (limits : Span) → units has (patterns_on history limits d) ≡ missing_on has history limits.min d
  units-patterns_on d limits =
      rw (sum_by-append, units-closed limits.min d d (omega arith), sum_by-singleton_if, matches-ended 0 d d (omega arith))
      (grind (arith, nat_tests, is_run d))
