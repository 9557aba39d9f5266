-- The meaning of sums of cells, and the days of a nurse's pattern.
use Rattle.std.specs.Prelude.{ℕ, ◌+◌, ◌-◌, ◌<◌, ◌≤◌, pos, negsuc, Bool, not, IsTrue, ⊤}
use Rattle.std.specs.Prelude.{Option, Some, None, IfSome, List, [], ◌∷◌, ◌++◌, flat_map}
use Rattle.rota_core.specs.Sizes.{DAYS}
use Rattle.rota_core.specs.declared.values.Cell.{Cell}
use Rattle.rota_core.specs.Lists.{singleton_if}
use Rattle.rota_core.specs.Problem.{Problem}
use Rattle.rota_items.specs.CellEvents.{coefficient_of}
use Rattle.rota_items.specs.Linear.{Term}
use Rattle.rota_items.specs.Rows.{on_cells, work_cells, nurse_cells, demand_cells, skill_cells, times}
use Rattle.rota_items.specs.RunItems.{Property, Present, Absent, day_terms, PatternDay, Pattern, without_property, days_with}
use Rattle.rota_items.specs.declared.cell_sum.CellSum.{CellSum}
use Rattle.rota_items.specs.declared.cell_sum.CellSum.TheVariants.{NurseDay, NurseDayShift, ShiftPair, Skill, Single, Demand, PatternDays}
use Rattle.rota_items.specs.declared.cell_sum.CellSum.TheVariants.{Total}
use Rattle.rota_items.specs.declared.cell_sum.DayPattern.{DayPattern}
use Rattle.rota_items.specs.declared.cell_sum.DayProperty.{DayProperty}
use Rattle.rota_items.specs.declared.cell_sum.DayProperty.TheVariants.{Shift, Work, Off}

-- the property of a nurse's days
abbrev pub property_of : Problem → ℕ → DayProperty → Property Cell
property_of problem n (Shift s) = Present (on_cells problem n s)
property_of problem n Work = Present (work_cells problem n)
property_of problem n Off = Absent (work_cells problem n)

-- whether the sum of a day's cells must be 1, not 0, if the day must have the property (true) or must not have it (false)
abbrev pub is_plain_of : DayProperty → Bool → Bool
is_plain_of (Shift s) has = has
is_plain_of Work has = has
is_plain_of Off has = not has

-- the day before those with the property, and the day after them, if they must be without it
abbrev pub day_before : DayPattern → List PatternDay
day_before pattern = singleton_if pattern.without_before (without_property (pattern.first - 1))

abbrev pub day_after : DayPattern → List PatternDay
day_after pattern = singleton_if pattern.without_after (without_property pattern.end)

abbrev pub days_of : DayPattern → List PatternDay
days_of pattern = day_before pattern ++ (days_with pattern.first pattern.end ++ day_after pattern)

abbrev pub pattern_of : DayPattern → Pattern
pattern_of pattern = record { days = days_of pattern; units = pattern.units }

-- the pattern's days are days of the week
pub record IsInWeek (pattern : DayPattern) : Type 0 where
  pub before_in : IsTrue pattern.without_before → 1 ≤ pattern.first
  pub ordered : pattern.first ≤ pattern.end
  pub week : pattern.end ≤ DAYS
  pub after_in : IsTrue pattern.without_after → pattern.end < DAYS

-- if there is a pattern, its days are days of the week
abbrev pub AreInWeek : Option DayPattern → Type 0
AreInWeek pattern = IfSome pattern IsInWeek

-- the pattern, if there is one
abbrev pub patterns_given : Option DayPattern → List Pattern
patterns_given None = []
patterns_given (Some pattern) = pattern_of pattern ∷ []

abbrev pub sum_terms : Problem → CellSum → List (Term Cell)
sum_terms problem (NurseDay n d) = times (negsuc 0) (work_cells problem n d)
sum_terms problem (NurseDayShift n s d) = times (negsuc 0) (on_cells problem n s d)
sum_terms problem (ShiftPair n d s t) = times (negsuc 0) (on_cells problem n s d ++ on_cells problem n t (d + 1))
sum_terms problem (Skill n k) = times (negsuc 0) (skill_cells problem n k)
sum_terms problem (Single cell) = times (pos 1) (cell ∷ [])
sum_terms problem (Demand d s k) = times (pos 1) (demand_cells problem d s k)
sum_terms problem (PatternDays n property pattern) = flat_map (day_terms (property_of problem n property)) (days_of pattern)
sum_terms problem (Total n sign) = times (coefficient_of sign) (nurse_cells problem n)

-- the sum's days are days of the week; other numbers may be any
abbrev pub IsSumOf : CellSum → Type 0
IsSumOf (ShiftPair n d s t) = d + 1 < DAYS
IsSumOf (PatternDays n property pattern) = IsInWeek pattern
IsSumOf _ = ⊤
