-- Certificates for the weeks of a period. What their bounds prove is in `Optimality`.
use Rattle.std.specs.Prelude.{◌≡◌, ℕ, ◌≤◌, List, [], ◌∷◌, length, map}
use Rattle.rota_core.specs.Certificates.{AreConditionsFor, IsCertificateFor}
use Rattle.rota_core.specs.InstanceTables.{InstanceTables, problem_of}
use Rattle.rota_core.specs.Limits.{max_number, max_weeks}
use Rattle.rota_core.specs.Problem.{Problem}
use Rattle.rota_core.specs.Roster.{Roster}
use Rattle.rota_core.specs.declared.certificate.Certificate.{Certificate}
use Rattle.rota_certificate.specs.CountedCharges.{numbers_in}
use Rattle.rota_certificate.specs.Facts.{Case}
use Rattle.rota_certificate.specs.Optimality.{AreOptimal, KeepAndMeet}
pub use Rattle.rota_certificate.specs.Optimality.{HaveNoPlan, NoneCostLess}
use Rattle.rota_certificate.specs.Periods.{ArePeriod}
use Rattle.rota_certificate.specs.Plans.{plan_cost, plan_of}

-- the weeks make a period of at most `max_weeks` weeks
pub record IsPeriod (weeks : List InstanceTables) : Type 0 where
  pub count : length weeks ≤ max_weeks
  pub period : ArePeriod (map problem_of weeks)

-- the given conditions are about these weeks, and there are no more than a file has
pub record AreGivenFor (weeks : List InstanceTables) (given : Case) : Type 0 where
  pub each : AreConditionsFor (numbers_in weeks) (length weeks) given
  pub few : length given ≤ max_number

-- there is at least one week, and the certificate is for these weeks
abbrev pub IsForWeeks : List InstanceTables → Certificate → Type 0
IsForWeeks [] certificate = ⊥
IsForWeeks (first ∷ later) certificate = IsCertificateFor (problem_of first) (length (first ∷ later)) certificate

-- the weeks make a period, and the given conditions and the certificate are for them
pub record AreEvidence (weeks : List InstanceTables) (given : Case) (certificate : Certificate) : Type 0 where
  pub period : IsPeriod weeks
  pub given_for : AreGivenFor weeks given
  pub is_for : IsForWeeks weeks certificate

-- the same of weeks without their tables
pub record AreEvidenceFor (first : Problem) (later : List Problem) (given : Case) (certificate : Certificate) : Type 0 where
  pub period : ArePeriod (first ∷ later)
  pub given_for : AreConditionsFor first.numbers (length (first ∷ later)) given
  pub is_for : IsCertificateFor first (length (first ∷ later)) certificate

-- rosters that keep the hard rules of the weeks, meet the given conditions, and cost this number of points, are optimal
abbrev pub AreOptimalAt : List Problem → (given : Case) → (points : ℕ) → Type 0
AreOptimalAt weeks given points =
    (rosters : List Roster) → KeepAndMeet weeks given rosters → plan_cost (plan_of weeks rosters) ≡ points → AreOptimal weeks given rosters
