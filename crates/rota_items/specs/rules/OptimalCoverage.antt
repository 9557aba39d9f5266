-- How the model charges S1: an item for each day, shift type and skill.
use Rattle.std.specs.Prelude.{◌-◌}
use Rattle.rota_items.specs.Rows.{DAYS, ℕ, pos, nat_lt, List, Cell, Problem, Rule, concat_below, singleton_if, demand_cells, Item, times}
use Rattle.rota_rules.specs.OptimalCoverage.{optimum_weight}

-- the item of a demand: its shortage is the number of nurses that are missing up to the optimal number
abbrev pub optimum_item : Problem → (day shift skill : ℕ) → Item Cell
optimum_item problem d s k = let demand = problem.demand d s k in record {
  rule = Rule.S1;
  weight = optimum_weight;
  slacks = demand.optimal - demand.minimum;
  terms = times (pos 1) (demand_cells problem d s k);
  degree = pos demand.optimal;
}

-- the item of a demand, if the optimal number is above the minimum
abbrev pub optimum_items_at : Problem → (day shift skill : ℕ) → List (Item Cell)
optimum_items_at problem d s k =
    singleton_if (nat_lt (problem.demand d s k).minimum (problem.demand d s k).optimal) (optimum_item problem d s k)

-- the items of all demands
abbrev pub optimum_items : Problem → List (Item Cell)
optimum_items problem =
    concat_below DAYS (λ d. concat_below problem.shifts (λ s. concat_below problem.skills (optimum_items_at problem d s)))
