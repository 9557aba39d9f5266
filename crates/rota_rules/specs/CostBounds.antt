-- Bounds for the costs of a week, which follow from the limits of its tables and from the rules' weights.
use Rattle.std.specs.Prelude.{ℕ, ◌*◌, ◌^◌, map, max}
use Rattle.std.specs.List.{fold}
use Rattle.rota_core.specs.Limits.{max_nurses, max_shifts, max_skills}
use Rattle.rota_core.specs.Rules.{soft_rules}
use Rattle.rota_core.specs.Sizes.{DAYS}
use Rattle.rota_rules.specs.Penalty.{soft_rule}

-- ---- cells

-- the maximum number of cells of a day and nurse, of a nurse, and of a week
abbrev pub max_cells_of_day : ℕ
max_cells_of_day = max_shifts * max_skills

abbrev pub max_cells_of_nurse : ℕ
max_cells_of_nurse = DAYS * max_cells_of_day

abbrev pub max_cells : ℕ
max_cells = max_nurses * max_cells_of_nurse

-- ---- weights and costs

-- the maximum weight of a unit of a cost
abbrev pub max_unit_weight : ℕ
max_unit_weight = fold max 0 (map (λ rule. (soft_rule rule).weight) soft_rules)

-- a number of 17 digits, above each penalty
abbrev pub penalty_limit : ℕ
penalty_limit = 2 ^ 55
