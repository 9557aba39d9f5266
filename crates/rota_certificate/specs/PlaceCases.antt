-- The demand of a place in a case. The condition "more than k nurses" raises the minimum. The condition "at most k nurses" lowers the
-- optimal number, and the missing nurses above the lowered number are charged.
use Rattle.std.specs.Prelude.{ℕ, ◌+◌, ◌-◌, ◌*◌, ◌==◌, ◌&&◌, Bool, true, false, max, min, if◌then◌else◌, [], ◌∷◌}
use Rattle.rota_core.specs.Sizes.{DAYS}
use Rattle.rota_core.specs.Prices.{Prices}
use Rattle.rota_core.specs.Problem.{Problem}
use Rattle.rota_core.specs.SumsBelow.{sum_below}
use Rattle.rota_core.specs.declared.certificate.Fact.{Fact}
use Rattle.rota_core.specs.declared.certificate.Fact.TheVariants.{Nurses}
use Rattle.rota_core.specs.declared.certificate.NurseLimit.{NurseLimit}
use Rattle.rota_core.specs.declared.values.Demand.{Demand}
use Rattle.rota_rules.specs.OptimalCoverage.{optimum_weight}
use Rattle.rota_certificate.specs.Facts.{Case}
use Rattle.rota_certificate.specs.PlaceBounds.{place_bound}

-- whether the limit is for this place of the week with this number
abbrev pub is_at : NurseLimit → (week day shift skill : ℕ) → Bool
is_at limit w d s k = limit.week == w && limit.day == d && limit.shift == s && limit.skill == k

-- the minimum, or more, if the fact is about this place and does not hold
abbrev pub raised_by : Fact → (holds : Bool) → (week day shift skill minimum : ℕ) → ℕ
raised_by (Nurses limit) false w d s k minimum = (if is_at limit w d s k then max minimum (limit.most + 1) else minimum)
raised_by _ _ w d s k minimum = minimum

-- the optimal number, or less, if the fact is about this place and holds
abbrev pub lowered_by : Fact → (holds : Bool) → (week day shift skill optimal : ℕ) → ℕ
lowered_by (Nurses limit) true w d s k optimal = (if is_at limit w d s k then min optimal limit.most else optimal)
lowered_by _ _ w d s k optimal = optimal

-- the minimum of the place in the case
unfoldable pub raised_minimum : Case → (week day shift skill minimum : ℕ) → ℕ
raised_minimum [] w d s k minimum = minimum
raised_minimum (condition ∷ case) w d s k minimum =
    raised_minimum case w d s k (raised_by condition.fact condition.holds w d s k minimum)

-- the optimal number of the place in the case
unfoldable pub lowered_optimal : Case → (week day shift skill optimal : ℕ) → ℕ
lowered_optimal [] w d s k optimal = optimal
lowered_optimal (condition ∷ case) w d s k optimal =
    lowered_optimal case w d s k (lowered_by condition.fact condition.holds w d s k optimal)

-- the demand of the place in the case
abbrev pub case_demand : Case → (week day shift skill : ℕ) → Demand → Demand
case_demand case w d s k demand = record {
  minimum = raised_minimum case w d s k demand.minimum;
  optimal = lowered_optimal case w d s k demand.optimal;
}

-- the bound of the place in the case: its bound with the demand in the case, and the cost of the nurses that are missing in any event
abbrev pub case_place_bound : ℕ → Case → (week day shift skill : ℕ) → Demand → (price : ℕ) → ℕ
case_place_bound unit case w d s k demand price =
    place_bound unit (case_demand case w d s k demand) price +
    unit * optimum_weight * (demand.optimal - lowered_optimal case w d s k demand.optimal)

-- the sum of the bounds of all places of the week with this number
abbrev pub case_place_bounds : ℕ → Case → (week : ℕ) → Problem → Prices → ℕ
case_place_bounds unit case w problem prices =
    sum_below DAYS (λ d. sum_below problem.shifts (λ s. sum_below problem.skills (λ k.
    case_place_bound unit case w d s k (problem.demand d s k) (prices d s k))))
