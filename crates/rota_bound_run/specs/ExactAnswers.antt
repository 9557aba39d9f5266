-- The claim that a certificate proves, and when the answer says that rosters are optimal.
use Rattle.std.specs.Prelude.{◌≡◌, ℕ, ◌==◌, nat_lt, Bool, false, List, map, Option, None, Some, if◌then◌else◌}
use Rattle.rota_core.specs.InstanceTables.{InstanceTables, problem_of}
use Rattle.rota_core.specs.Problem.{Problem}
use Rattle.rota_core.specs.declared.certificate.Certificate.{Certificate}
use Rattle.rota_certificate.specs.CertificateBounds.{lower_bound, minimums_bound}
use Rattle.rota_certificate.specs.Facts.{Case}
use Rattle.rota_bound_run.specs.Claims.{IsTrue}
use Rattle.rota_bound_run.specs.declared.answer.PeriodAnswer.{PeriodAnswer}
use Rattle.rota_bound_run.specs.declared.claims.Claim.{Claim}
use Rattle.rota_bound_run.specs.declared.claims.Claim.TheVariants.{AtLeast, NoRoster, Unknown}
use Rattle.rota_bound_run.specs.declared.judged.Judged.{Judged}

-- the claim of the minimums alone: above 0 their bound says that no roster exists
abbrev pub claim_of_minimums : ℕ → Claim
claim_of_minimums bound = (if nat_lt 0 bound then NoRoster else Unknown)

-- the claim that the certificate proves
abbrev pub claim_of : (minimums : Bool) → List Problem → (given : Case) → Certificate → Claim
claim_of minimums weeks given certificate =
    (if minimums then claim_of_minimums (minimums_bound weeks given certificate) else AtLeast (lower_bound weeks given certificate))

-- whether the claim is a bound, and the penalty of the rosters is this bound
abbrev pub is_at_bound : Claim → Option Judged → Bool
is_at_bound (AtLeast bound) (Some judged) = judged.penalty == bound
is_at_bound (AtLeast bound) None = false
is_at_bound NoRoster judged = false
is_at_bound Unknown judged = false

-- The answer is true. It claims what the certificate proves, and says that the rosters are optimal if and only if their penalty is the bound.
pub record IsAnswer (minimums : Bool) (weeks : List InstanceTables) (given : Case) (certificate : Certificate) (judged : Option Judged)
    (answer : PeriodAnswer) : Type 0 where
  pub is_true : IsTrue weeks given judged answer
  pub claim : answer.claim ≡ claim_of minimums (map problem_of weeks) given certificate
  pub at_bound : answer.optimal ≡ is_at_bound answer.claim judged
