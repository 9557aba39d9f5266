-- Costs and rebates of a nurse that were computed before, for the weeks of a leaf.
use Rattle.std.specs.Prelude.{◌≡◌, ℕ, ◌-◌, ◌≤◌, ◌<◌, IfSome, All, Option, List, [], ◌∷◌, length, drop}
use Rattle.rota_core.specs.Sizes.{DAYS}
use Rattle.rota_core.specs.declared.values.Past.{Past}
use Rattle.rota_certificate.specs.Minimums.{not_allowed}
use Rattle.rota_certificate.specs.Nearness.{IsNear}
use Rattle.rota_certificate.specs.NurseBounds.{LeafWeek, Terms, allowed_rebate, least_left}
use Rattle.rota_certificate.specs.Stages.{StageTables, all_of, days_before, terms_of, week_of}
use Rattle.rota_certificate.specs.declared.known.KnownCost.{KnownCost}
use Rattle.rota_certificate.specs.declared.known.KnownRebate.{KnownRebate}

-- the entries for costs and for rebates: each is free, or has a cost or a rebate that was computed before
pub record KnownTables : Type 0 where
  pub costs : List (Option KnownCost)
  pub rebates : List (Option KnownRebate)

-- there is at least one entry for costs, and one for rebates
pub record HasEntries (known : KnownTables) : Type 0 where
  pub costs : 0 < length known.costs
  pub rebates : 0 < length known.rebates

-- the rebate of the first of the weeks
abbrev pub first_rebate : List LeafWeek → (nurse day : ℕ) → Option ℕ → ℕ
first_rebate [] n d choice = 0
first_rebate (first ∷ later) n d choice = allowed_rebate first n d choice

-- the cost is the nurse's minimum cost of the last days of the week with this number, and of the later weeks, after the past
abbrev pub IsRightCost : Terms → List LeafWeek → (nurse : ℕ) → KnownCost → Type 0
IsRightCost terms weeks n known = known.cost ≡ least_left terms (drop known.week weeks) n known.days_left known.past

-- the rebate is the nurse's rebate for the choice on the day, in the week with this number
abbrev pub IsRightRebate : List LeafWeek → (nurse : ℕ) → KnownRebate → Type 0
IsRightRebate weeks n known = known.rebate ≡ first_rebate (drop known.week weeks) n known.day known.choice

-- each cost and each rebate that is known is right for the nurse in the weeks
pub record AreRightFor (terms : Terms) (weeks : List LeafWeek) (nurse : ℕ) (known : KnownTables) : Type 0 where
  pub costs : All (λ one. IfSome one (IsRightCost terms weeks nurse)) known.costs
  pub rebates : All (λ one. IfSome one (IsRightRebate weeks nurse)) known.rebates

-- the entries are right for the nurse of the stage
abbrev pub AreRight : StageTables → KnownTables → Type 0
AreRight stage known = AreRightFor (terms_of stage) (all_of stage) stage.nurse known

-- the entries are right for a search before the last `days_left` days of the stage's week, after a past to which the days before them can lead
pub record IsBefore (stage : StageTables) (known : KnownTables) (days_left : ℕ) (past : Past) : Type 0 where
  pub right : AreRight stage known
  pub within : days_left ≤ DAYS
  pub near : IsNear (week_of stage).week.shifts (days_before stage (DAYS - days_left)) past

-- the search has found this cost, and the entries stay right
pub record Finds (stage : StageTables) (known : KnownTables) (cost result : ℕ) : Type 0 where
  pub found : result ≡ cost
  pub small : result ≤ not_allowed
  pub right : AreRight stage known
