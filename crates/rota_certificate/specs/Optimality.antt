-- Rosters of the minimum cost, among those that keep the hard rules of some weeks and meet the given conditions.
use Rattle.std.specs.Prelude.{ℕ, ◌≤◌, List}
use Rattle.rota_core.specs.Problem.{Problem}
use Rattle.rota_core.specs.Roster.{Roster}
use Rattle.rota_certificate.specs.Facts.{Case, IsIn}
use Rattle.rota_certificate.specs.Plans.{KeepRules, plan_cost, plan_of}

-- these rosters keep the hard rules of the weeks and meet the given conditions
pub record KeepAndMeet (weeks : List Problem) (given : Case) (rosters : List Roster) : Type 0 where
  pub keep : KeepRules weeks rosters
  pub meet : IsIn (plan_of weeks rosters) given

-- these rosters do so, and no others that do so cost less
pub record AreOptimal (weeks : List Problem) (given : Case) (rosters : List Roster) : Type 0 where
  pub feasible : KeepAndMeet weeks given rosters
  pub least : (others : List Roster) → KeepAndMeet weeks given others →
      plan_cost (plan_of weeks rosters) ≤ plan_cost (plan_of weeks others)

-- no rosters that keep the hard rules of the weeks and meet the given conditions cost less than this number of points
abbrev pub NoneCostLess : List Problem → (given : Case) → (points : ℕ) → Type 0
NoneCostLess weeks given points = (rosters : List Roster) → KeepAndMeet weeks given rosters → points ≤ plan_cost (plan_of weeks rosters)

-- no rosters keep the hard rules of the weeks and meet the given conditions
abbrev pub HaveNoPlan : List Problem → (given : Case) → Type 0
HaveNoPlan weeks given = (rosters : List Roster) → KeepAndMeet weeks given rosters → ⊥
