use Rattle.std.proofs.Common.{◌≡◌, ◌≤◌, refl, arith, [], ◌∷◌}
use Rattle.std.proofs.lemmas.List.Sums.{sum_by-cons}
use Rattle.rota_core.specs.HardRules.{KeepsHardRules}
use Rattle.rota_core.specs.Problem.{Problem}
use Rattle.rota_core.specs.Roster.{Roster}
use Rattle.rota_rules.specs.Penalty.{penalty}
use Rattle.rota_certificate.specs.Optimality.{AreOptimal, KeepAndMeet}
use Rattle.rota_certificate.specs.Plans.{PlannedWeek, plan_after, plan_cost, plan_of}
use Rattle.rota_bound_run.specs.Claims.{Holds}
use Rattle.rota_bound_run.specs.OneWeek.{HoldsForWeek, IsOptimal}
use Rattle.rota_bound_run.specs.declared.claims.Claim.{Claim}
use Rattle.rota_bound_run.specs.declared.claims.Claim.TheVariants.{AtLeast, NoRoster, Unknown}
use Rattle.rota_bound_run.proofs.laws.a_period_of_one_week_is_a_week.Goals as goal

module _ (week : Problem) (roster : Roster) where
  keeps : KeepsHardRules week roster → KeepAndMeet (week ∷ []) [] (roster ∷ [])
  unfolding plan_after
  keeps keep = record { keep = record { count = refl; keep = (keep, tt) }; meet = tt }

  costs : plan_cost (plan_of (week ∷ []) (roster ∷ [])) ≡ penalty week roster
  unfolding plan_after
  costs = omega (arith, sum_by-cons (λ (one : PlannedWeek). penalty one.week one.roster) (record { week = week; roster = roster }) [])

  kept : KeepAndMeet (week ∷ []) [] (roster ∷ []) → KeepsHardRules week roster
  unfolding plan_after
  kept feasible = feasible.keep.keep.0

holds : (week : Problem) (claim : Claim) → Holds (week ∷ []) [] claim → HoldsForWeek week claim
holds week (AtLeast bound) claim = λ roster keep.
    let below : bound ≤ plan_cost (plan_of (week ∷ []) (roster ∷ [])) = claim (roster ∷ []) (keeps week roster keep) in
    omega (arith, below, costs week roster)
holds week NoRoster claim = λ roster keep. claim (roster ∷ []) (keeps week roster keep)
holds week Unknown claim = tt

optimal : (week : Problem) (roster : Roster) → AreOptimal (week ∷ []) [] (roster ∷ []) → IsOptimal week roster
optimal week roster are = record {
  keeps = kept week roster are.feasible;
  least = λ other keep. omega (arith, are.least (other ∷ []) (keeps week other keep), costs week roster, costs week other);
}

pub returns : goal.returns
returns c = λ week. record { holds = holds week; optimal = optimal week }
