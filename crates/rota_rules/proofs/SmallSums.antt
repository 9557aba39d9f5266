-- The size of runs and of sums over cells in a week within the limits.
use Rattle.std.proofs.Common.{ℕ, ◌+◌, ◌*◌, ◌≤◌, Bool, arith}
use Rattle.std.proofs.lemmas.List.Sums.{count_by-le-length, sum_by-le-sum_by}
use Rattle.rota_core.specs.declared.values.Span.{Span}
use Rattle.rota_core.specs.Limits.{max_shifts, max_skills}
use Rattle.rota_core.specs.Problem.{Problem}
use Rattle.rota_core.specs.SumsBelow.{sum_below}
use Rattle.rota_rules.specs.Runs.{is_over, missing_on, run_cost, run_over, run_under, week_days}
use Rattle.rota_rules.specs.WithinLimits.{IsWithinLimits}
use Rattle.rota_rules.proofs.LogicWords.{sum_below-at_most}

-- on each day of the week at most one day too many, and at most the minimum missing
pub run_cost-le : (has : ℕ → Bool) (history : ℕ) (limits : Span) → run_cost has history limits ≤ 7 * (1 + limits.min)
unfolding run_over run_under
run_cost-le has history limits =
    let over = count_by-le-length (is_over has history limits.max) week_days in
    omega (arith, sum_by-le-sum_by (missing_on has history limits.min) (λ _. limits.min) week_days (λ d. grind arith))

-- a number for each shift type and skill of each day
pub sum-cells : (problem : Problem) → IsWithinLimits problem → (m : ℕ) (f : ℕ → ℕ → ℕ → ℕ) → ((d s k : ℕ) → f d s k ≤ m) →
    sum_below 7 (λ d. sum_below problem.shifts (λ s. sum_below problem.skills (f d s))) ≤ 7 * (max_shifts * (max_skills * m))
sum-cells problem limits m f small =
    sum_below-at_most 7 7 _ _ (omega arith) (λ d.
    sum_below-at_most problem.shifts max_shifts _ _ limits.shifts (λ s.
    sum_below-at_most problem.skills max_skills m (f d s) limits.skills (small d s)))
