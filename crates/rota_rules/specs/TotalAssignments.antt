-- S6, total assignments: assignments outside the limits of the nurse's total.
use Rattle.std.specs.Prelude.{◌+◌, ◌-◌, ◌*◌, if◌then◌else◌}
use Rattle.rota_rules.specs.Imports.{DAYS, ℕ, sum_below, count_below, Roster, cell, Problem}
use Rattle.rota_rules.specs.CountedTotals.{charged_excess}

-- the weight of each assignment outside the limits
abbrev pub assignment_weight : ℕ
assignment_weight = 20

-- the number of the nurse's cells in this week's roster
abbrev pub assignments_of : Problem → Roster → ℕ → ℕ
assignments_of problem roster n =
    sum_below DAYS (λ d. sum_below problem.shifts (λ s. count_below problem.skills (λ k. roster (cell n d s k))))

-- in the last week, the number of assignments that the nurse's total is below its minimum; in other weeks 0
abbrev pub below_min_total : Problem → Roster → ℕ → ℕ
below_min_total problem roster n =
    (if problem.is_last then (problem.contract n).total.min - ((problem.past n).assignments + assignments_of problem roster n) else 0)

-- the number of assignments above the nurse's maximum total for which this week pays
abbrev pub above_max_total : Problem → Roster → ℕ → ℕ
above_max_total problem roster n =
    charged_excess problem (problem.contract n).total.max (problem.past n).assignments (assignments_of problem roster n)

-- the cost of a nurse's assignments below and above the limits of her total
abbrev pub assignment_cost_of : Problem → Roster → ℕ → ℕ
assignment_cost_of problem roster n = assignment_weight * (below_min_total problem roster n + above_max_total problem roster n)
