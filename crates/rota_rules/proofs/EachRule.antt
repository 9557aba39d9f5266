-- Each soft rule costs alike rosters the same, and little in a week within the limits. So does the penalty.
use Rattle.std.proofs.Common.{◌≡◌, ℕ, ◌+◌, ◌-◌, ◌*◌, ◌<◌, ◌≤◌, Bool, not, cond, refl, ap, arith}
use Rattle.std.proofs.lemmas.List.Sums.{sum_by-le-sum_by}
use Rattle.rota_core.specs.declared.rule.Rule.{Rule}
use Rattle.rota_core.specs.HardRules.{is_off, is_on, nurses_at, works}
use Rattle.rota_core.specs.Limits.{max_nurses, max_number, max_shifts}
use Rattle.rota_core.specs.Problem.{Problem}
use Rattle.rota_core.specs.Roster.{Roster, cell}
use Rattle.rota_core.specs.Rules.{soft_rules}
use Rattle.rota_rules.specs.AlikeRosters.{AreAlike}
use Rattle.rota_rules.specs.CompleteWeekends.{complete_weekend_cost_of}
use Rattle.rota_rules.specs.ConsecutiveAssignments.{consecutive_assignment_cost_of, history_on}
use Rattle.rota_rules.specs.ConsecutiveDaysOff.{consecutive_day_off_cost_of, off_run_weight}
use Rattle.rota_rules.specs.CostBounds.{max_cells, max_cells_of_nurse, max_unit_weight, penalty_limit}
use Rattle.rota_rules.specs.OptimalCoverage.{optimum_weight}
use Rattle.rota_rules.specs.Penalty.{SoftRule, of_each_nurse, penalty, rule_cost, soft_rule}
use Rattle.rota_rules.specs.Runs.{run_cost}
use Rattle.rota_rules.specs.ShiftOffRequests.{request_cost, request_weight}
use Rattle.rota_rules.specs.TotalAssignments.{assignment_cost_of, assignments_of}
use Rattle.rota_rules.specs.WithinLimits.{IsWithinLimits}
use Rattle.rota_rules.specs.WorkedWeekends.{worked_weekend_cost_of}
use Rattle.rota_rules.proofs.AlikeRosters.{count_below-alike, nurses-alike, on-alike, run_cost-alike, same_cell, works-alike}
use Rattle.rota_rules.proofs.LogicWords.{sum_below-at_most, sum_below-same, sum_by-each-same}
use Rattle.rota_rules.proofs.SmallSums.{run_cost-le, sum-cells}

-- a rule costs a nurse no more than the maximum weight for each of her cells and each number of a file
abbrev pub max_cost_of_nurse : ℕ
max_cost_of_nurse = max_unit_weight * (max_cells_of_nurse * max_number)

abbrev pub max_cost : ℕ
max_cost = max_nurses * max_cost_of_nurse

-- ---- a rule

pub record IsRegular (rule : SoftRule) : Type 0 where
  pub alike : (problem : Problem) (one other : Roster) → AreAlike problem one other → rule.cost problem one ≡ rule.cost problem other
  pub small : (problem : Problem) → IsWithinLimits problem → (roster : Roster) → rule.cost problem roster ≤ max_cost

-- the same for each nurse
pub record IsRegularOf (cost_of : Problem → Roster → ℕ → ℕ) : Type 0 where
  pub alike : (problem : Problem) (one other : Roster) → AreAlike problem one other → (n : ℕ) → n < problem.nurses →
      cost_of problem one n ≡ cost_of problem other n
  pub small : (problem : Problem) → IsWithinLimits problem → (roster : Roster) (n : ℕ) → cost_of problem roster n ≤ max_cost_of_nurse

by_nurse : {cost_of : Problem → Roster → ℕ → ℕ} {weight : ℕ} → IsRegularOf cost_of → IsRegular (of_each_nurse cost_of weight)
by_nurse {cost_of} regular = record {
  alike = λ problem one other same. sum_below-same problem.nurses _ _ (regular.alike problem one other same);
  small = λ problem limits roster.
      sum_below-at_most problem.nurses max_nurses max_cost_of_nurse (cost_of problem roster) limits.nurses (regular.small problem limits roster);
}

-- ---- the rules

optimal_coverage : IsRegular (soft_rule Rule.S1)
optimal_coverage = record {
  alike = λ problem one other same.
      ap (λ sum. optimum_weight * sum)
      (sum_below-same 7 _ _ (λ d d_in. sum_below-same problem.shifts _ _ (λ s s_in. sum_below-same problem.skills _ _ (λ k k_in.
      ap (λ count. (problem.demand d s k).optimal - count) (nurses-alike problem one other same d s k d_in s_in k_in)))));
  small = λ problem limits roster.
      let missing = λ (d s k : ℕ). (problem.demand d s k).optimal - nurses_at problem roster d s k in
      omega (arith, sum-cells problem limits max_number missing (λ d s k. omega (arith, limits.optimal d s k)));
}

consecutive_assignments : IsRegularOf consecutive_assignment_cost_of
consecutive_assignments = record {
  alike = λ problem one other same n n_in.
      let shifts = sum_below-same problem.shifts
      (λ s. run_cost (is_on problem one n s) (history_on problem n s) (problem.limits s))
      (λ s. run_cost (is_on problem other n s) (history_on problem n s) (problem.limits s))
      (λ s s_in. run_cost-alike _ _ (λ d. on-alike problem one other same n s d n_in s_in) (history_on problem n s) (problem.limits s)) in
      let work = run_cost-alike _ _ (λ d. works-alike problem one other same n d n_in) (problem.past n).work_run (problem.contract n).work in
      rw (shifts, work) refl;
  small = λ problem limits roster n.
      let shifts = sum_below-at_most problem.shifts max_shifts (7 * (1 + max_number))
      (λ s. run_cost (is_on problem roster n s) (history_on problem n s) (problem.limits s)) limits.shifts
      (λ s. omega (arith, limits.limits s, run_cost-le (is_on problem roster n s) (history_on problem n s) (problem.limits s))) in
      omega (arith, run_cost-le (works problem roster n) (problem.past n).work_run (problem.contract n).work, limits.work_limits n);
}

consecutive_days_off : IsRegularOf consecutive_day_off_cost_of
consecutive_days_off = record {
  alike = λ problem one other same n n_in.
      ap (λ cost. off_run_weight * cost)
      (run_cost-alike (is_off problem one n) (is_off problem other n) (λ d d_in. ap not (works-alike problem one other same n d n_in d_in))
      (problem.past n).off_run (problem.contract n).off);
  small = λ problem limits roster n.
      omega (arith, run_cost-le (is_off problem roster n) (problem.past n).off_run (problem.contract n).off, limits.off_limits n);
}

pub request_cost-le : (problem : Problem) → IsWithinLimits problem → (roster : Roster) →
    request_cost problem roster ≤ request_weight * (max_cells * max_number)
request_cost-le problem limits roster =
    let of_nurse = λ (n : ℕ). sum-cells problem limits max_number (λ d s k. cond (roster (cell n d s k)) (problem.requests n d s) 0)
    (λ d s k. grind (arith, limits.requests n d s)) in
    omega (arith, sum_below-at_most problem.nurses max_nurses _ _ limits.nurses of_nurse)

shift_off_requests : IsRegular (soft_rule Rule.S4)
shift_off_requests = record {
  alike = λ problem one other same.
      ap (λ sum. request_weight * sum)
      (sum_below-same problem.nurses _ _ (λ n n_in. sum_below-same 7 _ _ (λ d d_in. sum_below-same problem.shifts _ _ (λ s s_in.
      sum_below-same problem.skills _ _ (λ k k_in.
      ap (λ (b : Bool). cond b (problem.requests n d s) 0) (same_cell problem one other same n d s k n_in d_in s_in k_in))))));
  small = λ problem limits roster. omega (arith, request_cost-le problem limits roster);
}

complete_weekends : IsRegularOf complete_weekend_cost_of
complete_weekends = record {
  alike = λ problem one other same n n_in.
      rw (works-alike problem one other same n 5 n_in (omega arith), works-alike problem one other same n 6 n_in (omega arith)) refl;
  small = λ problem limits roster n. grind arith;
}

total_assignments : IsRegularOf assignment_cost_of
total_assignments = record {
  alike = λ problem one other same n n_in.
      let now : assignments_of problem one n ≡ assignments_of problem other n =
      sum_below-same 7 _ _ (λ d d_in. sum_below-same problem.shifts _ _ (λ s s_in.
      count_below-alike problem.skills _ _ (λ k k_in. same_cell problem one other same n d s k n_in d_in s_in k_in))) in
      rw now refl;
  small = λ problem limits roster n.
      let few = sum-cells problem limits 1 (λ d s k. cond (roster (cell n d s k)) 1 0) (λ d s k. grind arith) in
      grind (arith, limits.totals n, limits.assignments n);
}

worked_weekends : IsRegularOf worked_weekend_cost_of
worked_weekends = record {
  alike = λ problem one other same n n_in.
      rw (works-alike problem one other same n 5 n_in (omega arith), works-alike problem one other same n 6 n_in (omega arith)) refl;
  small = λ problem limits roster n. grind (arith, limits.weekends n);
}

regular : (rule : Rule) → IsRegular (soft_rule rule)
regular Rule.S1 = optimal_coverage
regular Rule.S2 = by_nurse consecutive_assignments
regular Rule.S3 = by_nurse consecutive_days_off
regular Rule.S4 = shift_off_requests
regular Rule.S5 = by_nurse complete_weekends
regular Rule.S6 = by_nurse total_assignments
regular Rule.S7 = by_nurse worked_weekends
regular _ = record { alike = λ _ _ _ _. refl; small = λ _ _ _. omega arith }

-- ---- all rules

module _ (problem : Problem) (one other : Roster) (same : AreAlike problem one other) where
  pub rule_cost-alike : (rule : Rule) → rule_cost problem one rule ≡ rule_cost problem other rule
  rule_cost-alike rule = (regular rule).alike problem one other same

  pub penalty-alike : penalty problem one ≡ penalty problem other
  penalty-alike = sum_by-each-same (rule_cost problem one) (rule_cost problem other) rule_cost-alike soft_rules

pub penalty-below : (problem : Problem) (roster : Roster) → IsWithinLimits problem → penalty problem roster < penalty_limit
penalty-below problem roster limits =
    omega (arith, sum_by-le-sum_by (rule_cost problem roster) (λ _. max_cost) soft_rules (λ rule. (regular rule).small problem limits roster))

pub ruleset small_costs = (penalty-below)
