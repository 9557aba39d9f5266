-- How the model charges S7: the items of a nurse's weekend, and her part of the constant.
use Rattle.std.specs.Prelude.{◌-◌, ◌*◌, ◌&&◌, if◌then◌else◌}
use Rattle.rota_items.specs.CountedItems.{excess_before_counts, max_totals_count}
use Rattle.rota_items.specs.RunItems.{ℕ, nat_le, false, List, [], Cell, Problem, Rule, Item, weekend_items}
use Rattle.rota_rules.specs.WorkedWeekends.{worked_weekend_weight}

-- the items of the nurse's weekend, if she has worked the maximum number of weekends before the week
abbrev pub worked_weekends_of : Problem → ℕ → List (Item Cell)
worked_weekends_of problem n =
    if max_totals_count problem && nat_le (problem.contract n).weekends (problem.past n).weekends
    then weekend_items Rule.S7 worked_weekend_weight problem n false
    else []

-- a nurse's weekends in the history above the maximum
abbrev pub weekends_above : Problem → ℕ → ℕ
weekends_above problem n = (if excess_before_counts problem then (problem.past n).weekends - (problem.contract n).weekends else 0)

-- a nurse's part of the constant, which no roster can avoid
abbrev pub weekend_constant_of : Problem → ℕ → ℕ
weekend_constant_of problem n = worked_weekend_weight * weekends_above problem n
