-- The meaning of a claim for a single week, if no facts are given.
use Rattle.std.specs.Prelude.{◌≤◌, [], ◌∷◌}
use Rattle.rota_core.specs.HardRules.{KeepsHardRules}
use Rattle.rota_core.specs.Problem.{Problem}
use Rattle.rota_core.specs.Roster.{Roster}
use Rattle.rota_rules.specs.Penalty.{penalty}
use Rattle.rota_certificate.specs.Optimality.{AreOptimal}
use Rattle.rota_bound_run.specs.Claims.{Holds}
use Rattle.rota_bound_run.specs.declared.claims.Claim.{Claim}
use Rattle.rota_bound_run.specs.declared.claims.Claim.TheVariants.{AtLeast, NoRoster, Unknown}

-- the meaning of the claim for the rosters of the week
abbrev pub HoldsForWeek : Problem → Claim → Type 0
HoldsForWeek week (AtLeast bound) = (roster : Roster) → KeepsHardRules week roster → bound ≤ penalty week roster
HoldsForWeek week NoRoster = (roster : Roster) → KeepsHardRules week roster → ⊥
HoldsForWeek week Unknown = Unit {0}

-- no roster that keeps the hard rules has a smaller penalty than this one, which keeps them
pub record IsOptimal (week : Problem) (roster : Roster) : Type 0 where
  pub keeps : KeepsHardRules week roster
  pub least : (other : Roster) → KeepsHardRules week other → penalty week roster ≤ penalty week other

-- a claim about the plans of this one week holds for its rosters, and an optimal plan of it is an optimal roster
pub record SpeaksOfWeek (week : Problem) : Type 0 where
  pub holds : (claim : Claim) → Holds (week ∷ []) [] claim → HoldsForWeek week claim
  pub optimal : (roster : Roster) → AreOptimal (week ∷ []) [] (roster ∷ []) → IsOptimal week roster
