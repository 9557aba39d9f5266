-- The windows and patterns that charge a property's runs: their number and their units are small, and the days of each follow one another.
use Rattle.rota_items.proofs.Common.Imports.{◌≡◌, ℕ, zero, suc, ◌+◌, ◌-◌, ◌<◌, ◌≤◌, List, [], ◌∷◌, ◌++◌, length, map, refl, sym, ap, subst, true, arith}
use Rattle.rota_items.proofs.Common.Imports.{length-append, nat_lt, nat_le, max, ◌&&◌, AllByRecursion, range_with_len, length-map, length-range_with_len}
use Rattle.rota_items.proofs.Common.Imports.{AllByRecursion-append, AllByRecursion-concat_below, AllByRecursion-singleton_if, length-concat_below}
use Rattle.rota_items.proofs.Common.Imports.{length-singleton_if, concat_below, Item, Span, PatternDay, Pattern, with_property, without_property, window}
use Rattle.rota_items.proofs.Common.Imports.{windows_on, windows, closed_pattern, closed_patterns_at, closed_patterns_on, edge_pattern, edge_patterns_on}
use Rattle.rota_items.proofs.Common.Imports.{patterns_on, patterns, map-id, map-map, ◌∙◌, DaysFollow, Runs, pattern_item, run_items, max_run_items}
use Rattle.rota_items.proofs.LogicWords.{length-each_below_both, all-back, all-map, all-weaker}

-- ---- the days

abbrev number : PatternDay → ℕ
number day = day.day

-- days with the property and a last one without it
numbers-ended : (first n end : ℕ) → first + n ≡ end →
    map number (map with_property (range_with_len first n) ++ without_property end ∷ []) ≡ range_with_len first (suc n)
numbers-ended first zero end same = let last : end ≡ first = omega arith in ap (λ d. d ∷ []) last
numbers-ended first (suc n) end same = ap (λ xs. first ∷ xs) (numbers-ended (first + 1) n end (omega arith))

-- ---- the windows and patterns

-- the days follow one another, and cost at most the shortage below the minimum
pub record IsRunPattern (limits : Span) (pattern : Pattern) : Type 0 where
  pub follows : DaysFollow pattern
  pub some : 1 ≤ pattern.units
  pub few : pattern.units ≤ max 1 limits.min

module _ (history : ℕ) (limits : Span) where
  abbrev Is : Pattern → Type 0
  Is pattern = IsRunPattern limits pattern

  is_run : (pattern : Pattern) (first n : ℕ) → map number pattern.days ≡ range_with_len first n → first + n ≤ 7 →
      1 ≤ pattern.units → pattern.units ≤ max 1 limits.min → Is pattern
  is_run pattern first n are in_week some few =
      let long : length pattern.days ≡ n = omega (arith, length-map pattern.days number, ap length are, length-range_with_len first n) in record {
        follows = record { first = first; days_are = rw long are; in_week = omega arith };
        some = some;
        few = few;
      }

  module _ (d : ℕ) (d_in : d < 7) where
    each-windows_on : AllByRecursion Is (windows_on history limits d)
    each-windows_on =
        AllByRecursion-singleton_if Is _ (window limits.max d) (λ _.
        is_run (window limits.max d) (d - limits.max) _ (map-map number with_property _ ∙ map-id _) (omega arith) (omega arith) (omega arith))

    is-closed : (k : ℕ) → k < d → (nat_le 1 k && nat_lt k limits.min) ≡ true → Is (closed_pattern limits.min d k)
    is-closed k room test =
        let short : k < limits.min = grind arith in
        let before : d - k - 1 + 1 ≡ d - k = omega arith in
        is_run (closed_pattern limits.min d k) (d - k - 1) (suc (suc (d - (d - k))))
        (rw (before, numbers-ended (d - k) (d - (d - k)) d (omega arith)) refl) (omega arith) (omega arith) (omega arith)

    is-edge : (nat_le 1 (history + d) && nat_lt (history + d) limits.min) ≡ true → Is (edge_pattern history limits.min d)
    is-edge test =
        let short : history + d < limits.min = grind arith in
        is_run (edge_pattern history limits.min d) 0 (suc (d - 0)) (numbers-ended 0 (d - 0) d (omega arith)) (omega arith) (omega arith) (omega arith)

    each-patterns_on : AllByRecursion Is (patterns_on history limits d)
    each-patterns_on =
        AllByRecursion-append Is (closed_patterns_on limits.min d) (edge_patterns_on history limits.min d)
        (AllByRecursion-concat_below Is d (closed_patterns_at limits.min d) (λ k room.
        AllByRecursion-singleton_if Is _ (closed_pattern limits.min d k) (is-closed k room)))
        (AllByRecursion-singleton_if Is _ (edge_pattern history limits.min d) is-edge)

    pub each-on : AllByRecursion Is (windows_on history limits d ++ patterns_on history limits d)
    each-on = AllByRecursion-append Is (windows_on history limits d) (patterns_on history limits d) each-windows_on each-patterns_on

  pub each-pattern : AllByRecursion Is (windows history limits ++ patterns history limits)
  each-pattern =
      AllByRecursion-append Is (windows history limits) (patterns history limits)
      (AllByRecursion-concat_below Is 7 (windows_on history limits) each-windows_on)
      (AllByRecursion-concat_below Is 7 (patterns_on history limits) each-patterns_on)

  -- ---- the number of windows and patterns

  pub few-run_patterns : length (windows history limits) + length (patterns history limits) ≤ max_run_items
  few-run_patterns =
      omega (
        arith,
        length-concat_below 7 1 (windows_on history limits) (λ d _. length-singleton_if _ _),
        length-concat_below 7 7 (patterns_on history limits) (λ d d_in.
            omega (
              arith,
              length-append (closed_patterns_on limits.min d) (edge_patterns_on history limits.min d),
              length-concat_below d 1 (closed_patterns_at limits.min d) (λ k _. length-singleton_if _ _),
              length-singleton_if (nat_le 1 (history + d) && nat_lt (history + d) limits.min) (edge_pattern history limits.min d),
            )),
      )

-- a property of the item of each window and pattern is a property of the items of the runs
pub each-run_item : {X : Type 0} (runs : Runs X) (P : Item X → Type 0) →
    ((pattern : Pattern) → IsRunPattern runs.limits pattern → P (pattern_item runs.rule runs.weight runs.property pattern)) →
    AllByRecursion P (run_items runs)
each-run_item runs P each =
    all-map P (pattern_item runs.rule runs.weight runs.property) (windows runs.history runs.limits ++ patterns runs.history runs.limits)
    (all-weaker (IsRunPattern runs.limits) _ each _ (each-pattern runs.history runs.limits))

-- the closed patterns of the week and its edge patterns
pub length-patterns : (history : ℕ) (limits : Span) → length (patterns history limits) ≡
    length (concat_below 7 (closed_patterns_on limits.min)) + length (concat_below 7 (edge_patterns_on history limits.min))
length-patterns history limits = length-each_below_both 7 (closed_patterns_on limits.min) (edge_patterns_on history limits.min)

pub ruleset run_counting = (few-run_patterns, length-patterns, length-map, length-append)

-- ---- a property of each day of the week is a property of a pattern's days

abbrev pub OnDays : (ℕ → Type 0) → List PatternDay → Type 0
OnDays P days = AllByRecursion (λ day. P day.day) days

module _ (P : ℕ → Type 0) (each : (d : ℕ) → d < 7 → P d) where
  on-range : (first n : ℕ) → first + n ≤ 7 → AllByRecursion P (range_with_len first n)
  on-range first zero inside = tt
  on-range first (suc n) inside = (each first (omega arith), on-range (first + 1) n (omega arith))

  pub on-pattern : (pattern : Pattern) → DaysFollow pattern → OnDays P pattern.days
  on-pattern pattern follows =
      all-back P number pattern.days
      (subst (AllByRecursion P) (sym follows.days_are) (on-range follows.first (length pattern.days) follows.in_week))
