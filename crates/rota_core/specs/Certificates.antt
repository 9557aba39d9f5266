-- Certificates for the plans of some weeks.
use Rattle.std.specs.Prelude.{◌≡◌, ℕ, ◌≤◌, ◌<◌, List, length}
use Rattle.std.specs.List.{AllByRecursion}
use Rattle.std.specs.Option.{ForSome}
use Rattle.rota_core.specs.Limits.{max_number, max_price}
use Rattle.rota_core.specs.PriceTables.{IsForWeek}
use Rattle.rota_core.specs.Problem.{Problem}
use Rattle.rota_core.specs.Sizes.{DAYS, Numbers}
use Rattle.rota_core.specs.Trees.{LeafTables, Tree, leaf_tree, leaves_in, split_tree}
use Rattle.rota_core.specs.declared.certificate.Certificate.{Certificate}
use Rattle.rota_core.specs.declared.certificate.ChargeLimit.{ChargeLimit}
use Rattle.rota_core.specs.declared.certificate.Condition.{Condition}
use Rattle.rota_core.specs.declared.certificate.DayChoice.{DayChoice}
use Rattle.rota_core.specs.declared.certificate.Fact.{Fact}
use Rattle.rota_core.specs.declared.certificate.Fact.TheVariants as facts
use Rattle.rota_core.specs.declared.certificate.NurseLimit.{NurseLimit}

-- the choice is of a nurse on a day of one of the weeks, and its shift type, if any, exists
pub record IsChoiceFor (numbers : Numbers) (weeks : ℕ) (one : DayChoice) : Type 0 where
  pub week : one.week < weeks
  pub nurse : one.nurse < numbers.nurses
  pub day : one.day < DAYS
  pub choice : ForSome one.choice (λ s. s < numbers.shifts)

-- the limit is of a place of one of the weeks
pub record IsNurseLimitFor (numbers : Numbers) (weeks : ℕ) (one : NurseLimit) : Type 0 where
  pub week : one.week < weeks
  pub day : one.day < DAYS
  pub shift : one.shift < numbers.shifts
  pub skill : one.skill < numbers.skills
  pub most : one.most ≤ max_number

-- the limit is of one of the nurses, or of all
pub record IsChargeLimitFor (numbers : Numbers) (one : ChargeLimit) : Type 0 where
  pub nurse : ForSome one.nurse (λ n. n < numbers.nurses)
  pub most : one.most ≤ max_number

-- the fact names a week, a nurse, a day, a shift type and a skill that exist
abbrev pub IsFactFor : Numbers → (weeks : ℕ) → Fact → Type 0
IsFactFor numbers weeks (facts.Choice one) = IsChoiceFor numbers weeks one
IsFactFor numbers weeks (facts.Nurses one) = IsNurseLimitFor numbers weeks one
IsFactFor numbers weeks (facts.Charges one) = IsChargeLimitFor numbers one
IsFactFor numbers weeks facts.EvenShiftRuns = Unit {0}

-- each condition is of such a fact
abbrev pub AreConditionsFor : Numbers → (weeks : ℕ) → List Condition → Type 0
AreConditionsFor numbers weeks conditions = AllByRecursion (λ (one : Condition). IsFactFor numbers weeks one.fact) conditions

-- the leaf has one of this number of prices, and no surcharge is above the maximum
pub record IsLeafFor (prices : ℕ) (leaf : LeafTables) : Type 0 where
  pub number : leaf.prices < prices
  pub surcharges : AllByRecursion (λ surcharge. surcharge ≤ max_price) leaf.surcharges

-- each fact by which the tree splits, and each leaf, is such
unfoldable pub IsTreeFor : Numbers → (weeks prices : ℕ) → Tree → Type 0
IsTreeFor numbers weeks prices (leaf_tree one) = IsLeafFor prices one
IsTreeFor numbers weeks prices (split_tree fact first second) =
    IsFactFor numbers weeks fact × IsTreeFor numbers weeks prices first × IsTreeFor numbers weeks prices second

-- The certificate is for plans of this number of weeks: in each list of prices there is a table for each week, each fact and leaf of its
-- tree is as above, and the tree has no more leaves than a file may have.
pub record IsCertificateFor (problem : Problem) (weeks : ℕ) (certificate : Certificate) : Type 0 where
  pub prices : AllByRecursion (λ list. (length list.items ≡ weeks) × AllByRecursion (IsForWeek problem) list.items) certificate.prices.items
  pub tree : IsTreeFor problem.numbers weeks (length certificate.prices.items) certificate.tree
  pub count : leaves_in certificate.tree ≤ max_number
