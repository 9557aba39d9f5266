-- S7, worked weekends: the weekends above the nurse's maximum.
use Rattle.std.specs.Prelude.{◌*◌, ◌||◌, if◌then◌else◌}
use Rattle.rota_rules.specs.Imports.{ℕ, works, Roster, Problem}
use Rattle.rota_rules.specs.CountedTotals.{charged_excess}

-- the weight of each weekend above the maximum
abbrev pub worked_weekend_weight : ℕ
worked_weekend_weight = 30

-- 1 if the nurse works on Saturday or Sunday, otherwise 0
abbrev pub worked_weekend : Problem → Roster → ℕ → ℕ
worked_weekend problem roster n = (if works problem roster n 5 || works problem roster n 6 then 1 else 0)

-- the number of worked weekends above the nurse's maximum for which this week pays
abbrev pub above_max_weekends : Problem → Roster → ℕ → ℕ
above_max_weekends problem roster n =
    charged_excess problem (problem.contract n).weekends (problem.past n).weekends (worked_weekend problem roster n)

-- the cost of a nurse's worked weekends above her maximum
abbrev pub worked_weekend_cost_of : Problem → Roster → ℕ → ℕ
worked_weekend_cost_of problem roster n = worked_weekend_weight * above_max_weekends problem roster n
