-- Bounds for the numbers of a week's model, which follow from the limits of its tables and from the rules' weights.
use Rattle.std.specs.Prelude.{ℕ, ◌+◌, ◌-◌, ◌*◌, ◌^◌, max, sum_by}
use Rattle.rota_core.specs.declared.rule.Rule.{Rule}
use Rattle.rota_core.specs.Rules.{soft_rules}
use Rattle.rota_core.specs.Limits.{max_nurses, max_number, max_shifts}
use Rattle.rota_core.specs.Sizes.{DAYS}
use Rattle.rota_rules.specs.CostBounds.{max_cells, max_cells_of_nurse, max_unit_weight}
use Rattle.rota_rules.specs.ShiftOffRequests.{request_weight}
use Rattle.rota_rules.specs.TotalAssignments.{assignment_weight}
use Rattle.rota_rules.specs.WorkedWeekends.{worked_weekend_weight}

-- ---- variables and constraints

-- a number of 8 digits, above the numbers of variables and of constraints
abbrev pub count_limit : ℕ
count_limit = 2 ^ 25

-- ---- items

-- a bound for the windows and patterns of a property's runs: a window for each day, and at most seven patterns whose run ends before it
abbrev pub max_run_items : ℕ
max_run_items = DAYS * (1 + DAYS)

abbrev pub max_items_of_nurse : Rule → ℕ
max_items_of_nurse Rule.S2 = (max_shifts + 1) * max_run_items
max_items_of_nurse _ = max_run_items

-- a bound for the number of items of each soft rule
abbrev pub max_items : Rule → ℕ
max_items Rule.S1 = max_cells_of_nurse
max_items rule = max_nurses * max_items_of_nurse rule

-- ---- weights

-- the maximum weight of an item's slack, and of all its slacks together
abbrev pub max_weight : ℕ
max_weight = max_unit_weight * max_number

-- a bound for a nurse's part of the constant
abbrev pub max_constant_of_nurse : Rule → ℕ
max_constant_of_nurse Rule.S6 = assignment_weight * ((max_number - DAYS) + max_number)
max_constant_of_nurse Rule.S7 = worked_weekend_weight * max_number
max_constant_of_nurse _ = 0

abbrev pub max_constant_of_rule : Rule → ℕ
max_constant_of_rule rule = max_nurses * max_constant_of_nurse rule

abbrev pub max_constant : ℕ
max_constant = sum_by max_constant_of_rule soft_rules

-- ---- the objective

-- a bound for the objective's coefficients: for an item's weight, and for the constant
abbrev pub max_coefficient : ℕ
max_coefficient = max max_weight max_constant

-- a bound for the sum of the requests of all cells, the constant, and all slacks
abbrev pub max_objective : ℕ
max_objective =
    request_weight * (max_cells * max_number) + max_constant + sum_by (λ rule. max_items rule * max_weight) soft_rules
