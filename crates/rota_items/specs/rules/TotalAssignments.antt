-- How the model charges S6: the items of a nurse's total, and her part of the constant.
use Rattle.std.specs.Prelude.{◌+◌, ◌-◌, ◌*◌, ◌-ℤ◌, ◌&&◌, if◌then◌else◌, ◌++◌}
use Rattle.rota_items.specs.Rows.{DAYS, ℕ, pos, negsuc, nat_lt, min, List, Cell, Problem, Rule, singleton_if, nurse_cells, Item, times}
use Rattle.rota_items.specs.CountedItems.{excess_before_counts, max_totals_count}
use Rattle.rota_rules.specs.TotalAssignments.{assignment_weight}

-- the assignments that the nurse still needs for her minimum total
abbrev pub still_wanted : Problem → ℕ → ℕ
still_wanted problem n = (problem.contract n).total.min - (problem.past n).assignments

-- the assignments that she may still have without exceeding her maximum total
abbrev pub still_allowed : Problem → ℕ → ℕ
still_allowed problem n = (problem.contract n).total.max - (problem.past n).assignments

-- the item whose shortage is the number of assignments that are missing for the nurse's minimum total, at most one a day
abbrev pub min_total_item : Problem → ℕ → Item Cell
min_total_item problem n = record {
  rule = Rule.S6;
  weight = assignment_weight;
  slacks = min (still_wanted problem n) DAYS;
  terms = times (pos 1) (nurse_cells problem n);
  degree = pos (min (still_wanted problem n) DAYS);
}

-- the item whose shortage is the number of this week's assignments above those that the nurse may still have
abbrev pub max_total_item : Problem → ℕ → Item Cell
max_total_item problem n = record {
  rule = Rule.S6;
  weight = assignment_weight;
  slacks = DAYS - still_allowed problem n;
  terms = times (negsuc 0) (nurse_cells problem n);
  degree = pos 0 -ℤ pos (still_allowed problem n);
}

-- the item of the minimum total, in the last week, if the nurse still needs assignments
abbrev pub min_totals_of : Problem → ℕ → List (Item Cell)
min_totals_of problem n = singleton_if (problem.is_last && nat_lt 0 (still_wanted problem n)) (min_total_item problem n)

-- the item of the maximum total, in a week in which it counts, if the nurse may not work on all days
abbrev pub max_totals_of : Problem → ℕ → List (Item Cell)
max_totals_of problem n =
    singleton_if (max_totals_count problem && nat_lt (still_allowed problem n) DAYS) (max_total_item problem n)

-- the items of a nurse's total
abbrev pub totals_of : Problem → ℕ → List (Item Cell)
totals_of problem n = min_totals_of problem n ++ max_totals_of problem n

-- the assignments that a nurse still needs beyond one for each day of this week; 0 if minimum totals do not count in it
abbrev pub wanted_beyond_days : Problem → ℕ → ℕ
wanted_beyond_days problem n = (if problem.is_last then still_wanted problem n - DAYS else 0)

-- a nurse's assignments in the history above her maximum total, if this week pays for them; otherwise 0
abbrev pub assignments_above : Problem → ℕ → ℕ
assignments_above problem n =
    (if excess_before_counts problem then (problem.past n).assignments - (problem.contract n).total.max else 0)

-- a nurse's part of the constant, which no roster that keeps H1 can avoid
abbrev pub assignment_constant_of : Problem → ℕ → ℕ
assignment_constant_of problem n = assignment_weight * (wanted_beyond_days problem n + assignments_above problem n)
