-- The parts of a roster's penalty: the costs of places and nurses; and also the cost of the charges of shift runs, and a multiple of 10.
use Rattle.std.proofs.Common.{◌≡◌, ℕ, zero, suc, refl, ◌+◌, ◌-◌, ◌*◌, ◌&&◌, ◌∙◌, ap, cond, Bool, true, false, arith}
use Rattle.rota_core.specs.Sizes.{DAYS}
use Rattle.rota_core.specs.SumsBelow.{sum_below}
use Rattle.rota_core.specs.HardRules.{is_off, nurses_at, works}
use Rattle.rota_core.specs.Roster.{Roster}
use Rattle.rota_core.specs.Problem.{Problem}
use Rattle.rota_core.specs.declared.certificate.ChargeKind.TheVariants.{ShiftRuns}
use Rattle.rota_rules.specs.Penalty.{penalty}
use Rattle.rota_rules.specs.Runs.{run_cost}
use Rattle.rota_rules.specs.CompleteWeekends.{complete_weekend_cost_of, exactly_one}
use Rattle.rota_rules.specs.ConsecutiveAssignments.{consecutive_assignment_cost_of}
use Rattle.rota_rules.specs.ConsecutiveDaysOff.{consecutive_day_off_cost_of}
use Rattle.rota_rules.specs.OptimalCoverage.{optimum_cost}
use Rattle.rota_rules.specs.ShiftOffRequests.{request_weight}
use Rattle.rota_rules.specs.TotalAssignments.{above_max_total, assignment_cost_of, below_min_total}
use Rattle.rota_rules.specs.WorkedWeekends.{above_max_weekends, worked_weekend_cost_of}
use Rattle.rota_certificate.specs.Facts.{charges_in_week}
use Rattle.rota_certificate.specs.NurseCosts.{fixed_cost, requests_of, tariff_cost}
use Rattle.rota_certificate.specs.declared.tariffs.Tariff.{Tariff}
use Rattle.rota_certificate.proofs.Sums.{sum_below-same, sum_below-plus, sum-times}

-- the tariff of the rules, with this value of a point
abbrev pub rules_tariff : ℕ → Tariff
rules_tariff unit = record { shift_runs = unit * 15; work_days = unit * 30; assignments = unit * 20; weekends = unit * 30 }

-- the sum of six parts
sum-six : (n : ℕ) (a b c d e f : ℕ → ℕ) →
    sum_below n (λ i. a i + b i + c i + d i + e i + f i) ≡
    sum_below n a + sum_below n b + sum_below n c + sum_below n d + sum_below n e + sum_below n f
unfolding sum_below
sum-six zero a b c d e f = refl
sum-six (suc n) a b c d e f = omega (arith, sum-six n a b c d e f)

weekend-tenth : (test : Bool) → cond test 30 0 ≡ 10 * cond test 3 0
weekend-tenth true = refl
weekend-tenth false = refl

module _ (problem : Problem) (roster : Roster) where
  -- the cost of the nurse by S2 to S7
  abbrev pub week_cost : ℕ → ℕ
  week_cost n =
      consecutive_assignment_cost_of problem roster n + consecutive_day_off_cost_of problem roster n + request_weight * requests_of problem roster n +
      complete_weekend_cost_of problem roster n + assignment_cost_of problem roster n + worked_weekend_cost_of problem roster n

  -- the penalty is the cost of the places and of the nurses
  pub penalty-is : penalty problem roster ≡ optimum_cost problem roster + sum_below problem.nurses week_cost
  penalty-is =
      let parts = sum-six problem.nurses (consecutive_assignment_cost_of problem roster) (consecutive_day_off_cost_of problem roster)
      (λ n. request_weight * requests_of problem roster n) (complete_weekend_cost_of problem roster)
      (assignment_cost_of problem roster) (worked_weekend_cost_of problem roster) in
      let requests = sum-times problem.nurses request_weight (requests_of problem roster) in
      omega (arith, parts, requests)

  -- the cost of the nurse is the cost of her charges by the tariff of the rules, and her fixed cost
  pub week_cost-is : (unit n : ℕ) →
      unit * week_cost n ≡ tariff_cost (rules_tariff unit) problem roster n + unit * fixed_cost problem roster n
  week_cost-is unit n =
      let parts : week_cost n ≡ tariff_cost (rules_tariff 1) problem roster n + fixed_cost problem roster n = omega arith in
      ap (λ (c : ℕ). unit * c) parts ∙ omega arith

  -- a tenth of the nurse's cost without her charges of shift runs
  abbrev tenths_of : ℕ → ℕ
  tenths_of n =
      3 * run_cost (works problem roster n) (problem.past n).work_run (problem.contract n).work +
      3 * run_cost (is_off problem roster n) (problem.past n).off_run (problem.contract n).off + requests_of problem roster n +
      cond ((problem.contract n).complete && exactly_one (works problem roster n 5) (works problem roster n 6)) 3 0 +
      2 * (below_min_total problem roster n + above_max_total problem roster n) + 3 * above_max_weekends problem roster n

  tenths-are : (n : ℕ) → week_cost n ≡ 15 * charges_in_week ShiftRuns problem roster n + 10 * tenths_of n
  tenths-are n =
      omega (arith, weekend-tenth ((problem.contract n).complete && exactly_one (works problem roster n 5) (works problem roster n 6)))

  -- a tenth of the penalty without the charges of shift runs
  abbrev pub tenths : ℕ
  tenths =
      3 * sum_below DAYS (λ d. sum_below problem.shifts (λ s. sum_below problem.skills (λ k.
      (problem.demand d s k).optimal - nurses_at problem roster d s k))) + sum_below problem.nurses tenths_of

  pub penalty-tenths : penalty problem roster ≡ 15 * sum_below problem.nurses (charges_in_week ShiftRuns problem roster) + 10 * tenths
  penalty-tenths =
      let each = sum_below-same problem.nurses week_cost (λ n. 15 * charges_in_week ShiftRuns problem roster n + 10 * tenths_of n) (λ n _. tenths-are n) in
      let parts = sum_below-plus problem.nurses (λ n. 15 * charges_in_week ShiftRuns problem roster n) (λ n. 10 * tenths_of n) in
      let runs = sum-times problem.nurses 15 (charges_in_week ShiftRuns problem roster) in
      let others = sum-times problem.nurses 10 tenths_of in
      omega (arith, penalty-is, each, parts, runs, others)
