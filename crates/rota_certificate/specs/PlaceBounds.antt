-- The minimum cost of a place, with the price of each nurse at the place added to the cost of the missing nurses. A place is a day, a
-- shift type and a skill. `unit` is the value of a point, in the unit of the prices: 1000, or 0 if the soft rules are left out.
use Rattle.std.specs.Prelude.{ℕ, ◌+◌, ◌-◌, ◌*◌, max, nat_lt, if◌then◌else◌}
use Rattle.rota_core.specs.declared.values.Demand.{Demand}
use Rattle.rota_rules.specs.OptimalCoverage.{optimum_weight}

-- the cost of this number of nurses at a place with this demand, and their prices
abbrev pub place_cost : ℕ → Demand → (price nurses : ℕ) → ℕ
place_cost unit demand price nurses = unit * optimum_weight * (demand.optimal - nurses) + price * nurses

-- the minimum of these numbers, over all numbers of nurses that are not below the minimum: with a price below the weight it is best to have
-- the optimal number of nurses, with another price it is best to have no more than the minimum
abbrev pub place_bound : ℕ → Demand → ℕ → ℕ
place_bound unit demand price =
    place_cost unit demand price (if nat_lt price (unit * optimum_weight) then max demand.minimum demand.optimal else demand.minimum)
