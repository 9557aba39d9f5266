-- Equivalent pasts, which have the same charges: a charge depends on a number of the past only up to a cap.
use Rattle.std.specs.Prelude.{◌≡◌, ℕ, ◌≤◌, max, min}
use Rattle.std.specs.Option.{option_map_or}
use Rattle.rota_core.specs.Problem.{Problem}
use Rattle.rota_core.specs.declared.values.Past.{Past}
use Rattle.rota_core.specs.declared.values.Span.{Span}
use Rattle.rota_certificate.specs.DayCharges.{run_on}

-- the cap of a run or a total: from the cap on, none is missing, and each further one is charged
abbrev pub cap_of : Span → ℕ
cap_of limits = max limits.min limits.max

-- the number, or its cap if that is less
abbrev pub capped_number : ℕ → Span → ℕ
capped_number number limits = min number (cap_of limits)

-- the run on the last shift type, or its cap if that is less; 0 after a day off
abbrev pub capped_shift_run : Problem → Past → ℕ
capped_shift_run problem past = option_map_or (λ s. capped_number past.shift_run (problem.limits s)) past.last 0

-- two numbers are equal, or both have reached the cap
abbrev pub AreEquivalentNumbers : Span → (number other : ℕ) → Type 0
AreEquivalentNumbers limits number other = capped_number number limits ≡ capped_number other limits

-- two pasts of the nurse have the same last shift type, equivalent totals and equivalent runs
pub record AreEquivalent (problem : Problem) (n : ℕ) (past other : Past) : Type 0 where
  pub assignments : AreEquivalentNumbers (problem.contract n).total past.assignments other.assignments
  pub weekends : min past.weekends (problem.contract n).weekends ≡ min other.weekends (problem.contract n).weekends
  pub last : past.last ≡ other.last
  pub shift_run : (s : ℕ) → AreEquivalentNumbers (problem.limits s) (run_on past s) (run_on other s)
  pub work_run : AreEquivalentNumbers (problem.contract n).work past.work_run other.work_run
  pub off_run : AreEquivalentNumbers (problem.contract n).off past.off_run other.off_run

-- no number of the past is above its cap
pub record IsCapped (problem : Problem) (n : ℕ) (past : Past) : Type 0 where
  pub assignments : past.assignments ≤ cap_of (problem.contract n).total
  pub weekends : past.weekends ≤ (problem.contract n).weekends
  pub shift_run : (s : ℕ) → run_on past s ≤ cap_of (problem.limits s)
  pub work_run : past.work_run ≤ cap_of (problem.contract n).work
  pub off_run : past.off_run ≤ cap_of (problem.contract n).off

-- the cost of the time after the past is the same for equivalent pasts
abbrev pub IsSameForEquivalent : Problem → ℕ → (rest : Past → ℕ) → Type 0
IsSameForEquivalent problem n rest = (past other : Past) → AreEquivalent problem n past other → rest past ≡ rest other

-- two weeks have the same limits and contracts
pub record HaveSameLimits (one other : Problem) : Type 0 where
  pub limits : (s : ℕ) → one.limits s ≡ other.limits s
  pub contract : (n : ℕ) → one.contract n ≡ other.contract n
