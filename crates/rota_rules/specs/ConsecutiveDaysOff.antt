-- S3, consecutive days off: runs of days off that are too long or too short.
use Rattle.std.specs.Prelude.{◌*◌}
use Rattle.rota_rules.specs.Imports.{ℕ, is_off, Roster, Problem}
use Rattle.rota_rules.specs.Runs.{run_cost}

-- the weight of each day too many or too few in a run of days off
abbrev pub off_run_weight : ℕ
off_run_weight = 30

-- the cost of a nurse's runs of days off
abbrev pub consecutive_day_off_cost_of : Problem → Roster → ℕ → ℕ
consecutive_day_off_cost_of problem roster n =
    off_run_weight * run_cost (is_off problem roster n) (problem.past n).off_run (problem.contract n).off
