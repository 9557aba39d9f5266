-- S1, optimal coverage: nurses below the optimal number for a day, shift type and skill.
use Rattle.std.specs.Prelude.{◌-◌, ◌*◌}
use Rattle.rota_rules.specs.Imports.{DAYS, ℕ, sum_below, nurses_at, Roster, Problem}

-- the weight of each missing nurse
abbrev pub optimum_weight : ℕ
optimum_weight = 30

-- the cost of all missing nurses, summed over the days, shift types and skills
abbrev pub optimum_cost : Problem → Roster → ℕ
optimum_cost problem roster =
    optimum_weight * sum_below DAYS (λ d. sum_below problem.shifts (λ s. sum_below problem.skills (λ k.
    (problem.demand d s k).optimal - nurses_at problem roster d s k)))
