-- The numbers of a case's facts and surcharges are within the limits of files.
use Rattle.std.specs.Prelude.{ℕ, ◌+◌, ◌*◌, ◌≤◌, ⊤, List, length}
use Rattle.std.specs.List.{AllByRecursion}
use Rattle.rota_core.specs.Limits.{max_number, max_price}
use Rattle.rota_core.specs.declared.certificate.Fact.{Fact}
use Rattle.rota_core.specs.declared.certificate.Fact.TheVariants.{Charges, Choice, EvenShiftRuns, Nurses}
use Rattle.rota_core.specs.declared.values.Demand.{Demand}
use Rattle.rota_certificate.specs.Facts.{Case}
use Rattle.rota_certificate.specs.declared.surcharges.Surcharged.{Surcharged}

-- the maximum of the fact, if it has one, is a number of a file
abbrev pub IsLimited : Fact → Type 0
IsLimited (Nurses limit) = limit.most ≤ max_number
IsLimited (Charges limit) = limit.most ≤ max_number
IsLimited (Choice one) = ⊤
IsLimited EvenShiftRuns = ⊤

-- the maximum number of conditions of a case: a certificate has at most twice `max_number` nodes, and there are at most `max_number` given
-- conditions
abbrev pub most_conditions : ℕ
most_conditions = 3 * max_number

-- a case with these limits
pub record IsLimitedCase (case : Case) : Type 0 where
  pub few : length case ≤ most_conditions
  pub each : AllByRecursion (λ one. IsLimited one.fact) case

-- the conditions of a leaf with their surcharges, within these limits
pub record AreLimitedCharges (charges : List Surcharged) : Type 0 where
  pub few : length charges ≤ most_conditions
  pub each : AllByRecursion (λ one. IsLimited one.condition.fact) charges
  pub small : AllByRecursion (λ one. one.surcharge ≤ max_price) charges

-- the maximum of a minimum in a case: "more than k nurses" asks for k + 1
abbrev pub most_nurses : ℕ
most_nurses = max_number + 1

-- the demand of a place in a case: its minimum is at most this number, and its optimal number is a number of a file
pub record IsLimitedDemand (demand : Demand) : Type 0 where
  pub minimum : demand.minimum ≤ most_nurses
  pub optimal : demand.optimal ≤ max_number
