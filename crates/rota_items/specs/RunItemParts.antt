-- The run items of a day, and the conditions of the laws of `rota_judge` on them.
use Rattle.std.specs.Prelude.{◌≤◌, ◌<◌, ◌++◌, ◌≡◌, ◌+◌}
use Rattle.rota_core.specs.Sizes.{DAYS}
use Rattle.rota_items.specs.Imports.{ℕ, Bool, List, map, count_by, length, range_with_len, not, list_any}
use Rattle.rota_items.specs.Rows.{Item}
use Rattle.rota_items.specs.RunItems.{Pattern, windows_on, patterns_on}
use Rattle.rota_items.specs.RunItems.{Property, variables_on, Runs, pattern_items, Present, Absent}

-- the items of one day's window, and of the patterns of the runs that end on the day before it
abbrev pub window_items_on : {X : Type 0} → Runs X → ℕ → List (Item X)
window_items_on runs d = pattern_items runs (windows_on runs.history runs.limits d)

abbrev pub pattern_items_on : {X : Type 0} → Runs X → ℕ → List (Item X)
pattern_items_on runs d = pattern_items runs (patterns_on runs.history runs.limits d)

-- the items of one day's window and of its patterns
abbrev pub day_items : {X : Type 0} → Runs X → ℕ → List (Item X)
day_items runs d =
    pattern_items runs (windows_on runs.history runs.limits d ++ patterns_on runs.history runs.limits d)

-- on each day of the week at most one of the property's variables is true
abbrev pub AtMostOneADay : {X : Type 0} → Property X → (X → Bool) → Type 0
AtMostOneADay property assignment =
    (d : ℕ) → d < DAYS → count_by assignment (variables_on property d) ≤ 1

-- the pattern's days follow one another within the week
pub record DaysFollow (pattern : Pattern) : Type 0 where
  pub first : ℕ
  pub days_are : map (λ day. day.day) pattern.days ≡ range_with_len first (length pattern.days)
  pub in_week : first + length pattern.days ≤ DAYS

abbrev pub has_property : {X : Type 0} → Property X → (X → Bool) → ℕ → Bool
has_property (Present variables) assignment d = list_any assignment (variables d)
has_property (Absent variables) assignment d = not (list_any assignment (variables d))
