-- S2, consecutive assignments: runs on a shift type and runs of working days that are too long or too short.
use Rattle.std.specs.Prelude.{◌+◌, ◌*◌, ◌==◌, if◌then◌else◌}
use Rattle.rota_rules.specs.Imports.{ℕ, false, sum_below, is_on, works, Roster, Problem}
use Rattle.std.specs.Option.{option_map_or}
use Rattle.rota_rules.specs.Runs.{run_cost}

-- the weight of each day too many or too few in a run on a shift type
abbrev pub shift_run_weight : ℕ
shift_run_weight = 15

-- the weight of each day too many or too few in a run of working days
abbrev pub work_run_weight : ℕ
work_run_weight = 30

-- the length of the nurse's run on the shift type up to the Sunday before the week
abbrev pub history_on : Problem → ℕ → ℕ → ℕ
history_on problem n s =
    (if option_map_or (λ last. last == s) (problem.past n).last false then (problem.past n).shift_run else 0)

-- the cost of a nurse's runs on all shift types, and of her runs of working days
abbrev pub consecutive_assignment_cost_of : Problem → Roster → ℕ → ℕ
consecutive_assignment_cost_of problem roster n =
    shift_run_weight * sum_below problem.shifts (λ s. run_cost (is_on problem roster n s) (history_on problem n s) (problem.limits s)) +
    work_run_weight * run_cost (works problem roster n) (problem.past n).work_run (problem.contract n).work
