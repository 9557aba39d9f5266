-- A week whose numbers are within the limits of the files.
use Rattle.std.specs.Prelude.{ℕ, ◌≤◌}
use Rattle.rota_core.specs.Limits.{max_nurses, max_number, max_shifts, max_skills}
use Rattle.rota_core.specs.Problem.{Problem}

-- the numbers on which the size of the penalty depends are small
pub record IsWithinLimits (problem : Problem) : Type 0 where
  pub nurses : problem.nurses ≤ max_nurses
  pub shifts : problem.shifts ≤ max_shifts
  pub skills : problem.skills ≤ max_skills
  pub optimal : (d s k : ℕ) → (problem.demand d s k).optimal ≤ max_number
  pub limits : (s : ℕ) → (problem.limits s).min ≤ max_number
  pub work_limits : (n : ℕ) → (problem.contract n).work.min ≤ max_number
  pub off_limits : (n : ℕ) → (problem.contract n).off.min ≤ max_number
  pub totals : (n : ℕ) → (problem.contract n).total.min ≤ max_number
  pub assignments : (n : ℕ) → (problem.past n).assignments ≤ max_number
  pub weekends : (n : ℕ) → (problem.past n).weekends ≤ max_number
  pub requests : (n d s : ℕ) → problem.requests n d s ≤ max_number
