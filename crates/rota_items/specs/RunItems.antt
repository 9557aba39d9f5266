-- The windows and patterns that charge runs, as days that must have a property or must not, and their items.
use Rattle.std.specs.Prelude.{◌+◌, ◌-◌, ◌*◌, ◌&&◌, ◌-ℤ◌, if◌then◌else◌, ◌∷◌, ◌++◌, ℕ, pos, negsuc, Bool, true, false}
pub use Rattle.rota_items.specs.Imports.{DAYS, not, nat_le, nat_lt, List, [], map, flat_map, range_with_len, count_by, Cell, Rule, Span}
pub use Rattle.rota_items.specs.Imports.{Problem, ℕ, true, false}
pub use Rattle.rota_items.specs.Rows.{Term, times, Item, concat_below, singleton_if, work_cells, on_cells}

-- a day, and whether it must have the property
pub record PatternDay : Type 0 where
  pub day : ℕ
  pub has : Bool

-- days, and the units that the pattern costs if all of them match
pub record Pattern : Type 0 where
  pub days : List PatternDay
  pub units : ℕ

-- the day must have the property
abbrev pub with_property : ℕ → PatternDay
with_property d = record { day = d; has = true }

-- the day must not have the property
abbrev pub without_property : ℕ → PatternDay
without_property d = record { day = d; has = false }

-- the days from the first up to the end, which is excluded, all with the property
abbrev pub days_with : ℕ → ℕ → List PatternDay
days_with first end = map with_property (range_with_len first (end - first))

-- the window of d: the last `maximum` + 1 days up to d, or the days from Monday on if these are fewer, all with the property
abbrev pub window : ℕ → ℕ → Pattern
window maximum d = record { days = days_with (d - maximum) (d + 1); units = 1 }

-- the window of d, if the days in the history and up to d are more than the maximum
abbrev pub windows_on : ℕ → Span → ℕ → List Pattern
windows_on history limits d = singleton_if (nat_lt limits.max (history + d + 1)) (window limits.max d)

-- the pattern of a run of count days that begins after Monday and ends on the day before d; it costs the days below the minimum
abbrev pub closed_pattern : (minimum day count : ℕ) → Pattern
closed_pattern minimum d count = record {
  days = without_property (d - count - 1) ∷ days_with (d - count) d ++ without_property d ∷ [];
  units = minimum - count;
}

-- the closed pattern of count days, if count is at least 1 and below the minimum
abbrev pub closed_patterns_at : (minimum day count : ℕ) → List Pattern
closed_patterns_at minimum d count = singleton_if (nat_le 1 count && nat_lt count minimum) (closed_pattern minimum d count)

-- the closed patterns of d, for each number of days that leaves a day of the week before the run
abbrev pub closed_patterns_on : ℕ → ℕ → List Pattern
closed_patterns_on minimum d = concat_below d (closed_patterns_at minimum d)

-- the pattern of a run that begins on Monday or in the history and ends on the day before d; it costs the days below the minimum
abbrev pub edge_pattern : (history minimum day : ℕ) → Pattern
edge_pattern history minimum d = record {
  days = days_with 0 d ++ without_property d ∷ [];
  units = minimum - history - d;
}

-- the edge pattern of d, if the days in the history and before d are at least 1 and below the minimum
abbrev pub edge_patterns_on : (history minimum day : ℕ) → List Pattern
edge_patterns_on history minimum d =
    singleton_if (nat_le 1 (history + d) && nat_lt (history + d) minimum) (edge_pattern history minimum d)

-- the closed patterns of d, then its edge pattern
abbrev pub patterns_on : ℕ → Span → ℕ → List Pattern
patterns_on history limits d = closed_patterns_on limits.min d ++ edge_patterns_on history limits.min d

-- the windows of all days of the week
abbrev pub windows : ℕ → Span → List Pattern
windows history limits = concat_below DAYS (windows_on history limits)

-- the patterns of all days of the week
abbrev pub patterns : ℕ → Span → List Pattern
patterns history limits = concat_below DAYS (patterns_on history limits)

-- The condition on a day: one of its variables is true, or none is. The variables are given by the day.
pub data Property (X : Type 0) : Type 0 where
  Present : (ℕ → List X) → Property X
  Absent : (ℕ → List X) → Property X

-- the day's variables
abbrev pub variables_on : {X : Type 0} → Property X → ℕ → List X
variables_on (Present variables) d = variables d
variables_on (Absent variables) d = variables d

-- whether the day's sum must be 1, and not 0
abbrev pub is_plain : {X : Type 0} → Property X → PatternDay → Bool
is_plain (Present variables) day = day.has
is_plain (Absent variables) day = not day.has

-- a term for each of the day's variables: -1 if the day's sum must be 1, and 1 if it must be 0
abbrev pub day_terms : {X : Type 0} → Property X → PatternDay → List (Term X)
day_terms property day = times (if is_plain property day then negsuc 0 else pos 1) (variables_on property day.day)

-- if at most one variable of each day is true, the item that is charged exactly if all days match the pattern, with this weight for each
-- of the pattern's units
abbrev pub pattern_item : {X : Type 0} → Rule → ℕ → Property X → Pattern → Item X
pattern_item rule weight property pattern = record {
  rule = rule;
  weight = weight * pattern.units;
  slacks = 1;
  terms = flat_map (day_terms property) pattern.days;
  degree = pos 1 -ℤ pos (count_by (is_plain property) pattern.days);
}

-- the runs of a property, and the weight of a unit of their cost
pub record Runs (X : Type 0) : Type 0 where
  pub rule : Rule
  pub weight : ℕ
  pub property : Property X
  pub history : ℕ
  pub limits : Span

-- the items of these patterns
abbrev pub pattern_items : {X : Type 0} → Runs X → List Pattern → List (Item X)
pattern_items runs all = map (pattern_item runs.rule runs.weight runs.property) all

-- the items of all windows, then of all patterns
abbrev pub run_items : {X : Type 0} → Runs X → List (Item X)
run_items runs = pattern_items runs (windows runs.history runs.limits ++ patterns runs.history runs.limits)

-- work on Saturday, and no work on Sunday if Saturday must be alone
abbrev pub saturday : Bool → Pattern
saturday alone = record { days = with_property 5 ∷ (if alone then without_property 6 ∷ [] else []); units = 1 }

-- work on Sunday, and no work on Saturday
abbrev pub only_sunday : Pattern
only_sunday = record { days = without_property 5 ∷ with_property 6 ∷ []; units = 1 }

-- the items of `saturday alone` and `only_sunday`, for a nurse's weekend
abbrev pub weekend_items : Rule → ℕ → Problem → ℕ → Bool → List (Item Cell)
weekend_items rule weight problem n alone =
    map (pattern_item rule weight (Present (work_cells problem n))) (saturday alone ∷ only_sunday ∷ [])
