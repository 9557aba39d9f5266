-- The soft rules, with a row for each, and the cost of a roster in a week by these rules.
use Rattle.std.specs.Prelude.{max}
use Rattle.rota_rules.specs.Imports.{ℕ, sum_below, sum_by, Roster, Rule, Problem, soft_rules}
use Rattle.rota_rules.specs.CompleteWeekends.{complete_weekend_cost_of, complete_weekend_weight}
use Rattle.rota_rules.specs.ConsecutiveAssignments.{consecutive_assignment_cost_of, shift_run_weight, work_run_weight}
use Rattle.rota_rules.specs.ConsecutiveDaysOff.{consecutive_day_off_cost_of, off_run_weight}
use Rattle.rota_rules.specs.TotalAssignments.{assignment_cost_of, assignment_weight}
use Rattle.rota_rules.specs.WorkedWeekends.{worked_weekend_cost_of, worked_weekend_weight}
use Rattle.rota_rules.specs.OptimalCoverage.{optimum_cost, optimum_weight}
use Rattle.rota_rules.specs.ShiftOffRequests.{request_cost, request_weight}

-- a soft rule: the cost of a roster over all nurses, and the maximum weight of a unit of this cost
pub record SoftRule : Type 0 where
  pub cost : Problem → Roster → ℕ
  pub weight : ℕ

-- the rule with this cost of each nurse
abbrev pub of_each_nurse : (Problem → Roster → ℕ → ℕ) → ℕ → SoftRule
of_each_nurse cost_of weight = record {
  cost = λ problem roster. sum_below problem.nurses (cost_of problem roster);
  weight = weight;
}

-- the soft rules; no other rule costs anything
abbrev pub soft_rule : Rule → SoftRule
soft_rule Rule.S1 = record { cost = optimum_cost; weight = optimum_weight }
soft_rule Rule.S2 = of_each_nurse consecutive_assignment_cost_of (max shift_run_weight work_run_weight)
soft_rule Rule.S3 = of_each_nurse consecutive_day_off_cost_of off_run_weight
soft_rule Rule.S4 = record { cost = request_cost; weight = request_weight }
soft_rule Rule.S5 = of_each_nurse complete_weekend_cost_of complete_weekend_weight
soft_rule Rule.S6 = of_each_nurse assignment_cost_of assignment_weight
soft_rule Rule.S7 = of_each_nurse worked_weekend_cost_of worked_weekend_weight
soft_rule _ = record { cost = λ problem roster. 0; weight = 0 }

-- the cost of a rule
abbrev pub rule_cost : Problem → Roster → Rule → ℕ
rule_cost problem roster rule = (soft_rule rule).cost problem roster

-- the penalty of the roster in this week: the sum of the costs of the soft rules
abbrev pub penalty : Problem → Roster → ℕ
penalty problem roster = sum_by (rule_cost problem roster) soft_rules
