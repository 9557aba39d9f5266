-- The meaning of an answer: its claim about all plans of the weeks that meet the given facts, and about the rosters that are judged.
use Rattle.std.specs.Prelude.{◌≡◌, true, List, map, Option, option_map, IsSomeAnd}
use Rattle.rota_core.specs.InstanceTables.{InstanceTables, problem_of}
use Rattle.rota_core.specs.Problem.{Problem}
use Rattle.rota_core.specs.RosterTables.{set_of}
use Rattle.rota_certificate.specs.Optimality.{AreOptimal, HaveNoPlan, NoneCostLess}
use Rattle.rota_certificate.specs.Facts.{Case}
use Rattle.rota_certificate.specs.Plans.{plan_cost, plan_from}
use Rattle.rota_bound_run.specs.declared.answer.PeriodAnswer.{PeriodAnswer}
use Rattle.rota_bound_run.specs.declared.claims.Claim.{Claim}
use Rattle.rota_bound_run.specs.declared.claims.Claim.TheVariants.{AtLeast, NoRoster, Unknown}
use Rattle.rota_bound_run.specs.declared.judged.Judged.{Judged}

-- the meaning of the claim for the plans of the weeks that meet the given facts
abbrev pub Holds : List Problem → (given : Case) → Claim → Type 0
Holds weeks given (AtLeast points) = NoneCostLess weeks given points
Holds weeks given NoRoster = HaveNoPlan weeks given
Holds weeks given Unknown = Unit {0}

-- The claim holds. If rosters are judged, the penalty is their cost; and they are optimal, if the answer says so.
pub record IsTrue (weeks : List InstanceTables) (given : Case) (judged : Option Judged) (answer : PeriodAnswer) : Type 0 where
  pub holds : Holds (map problem_of weeks) given answer.claim
  pub penalty : answer.penalty ≡ option_map (λ (j : Judged). plan_cost (plan_from weeks j.rosters.items)) judged
  pub optimal : answer.optimal ≡ true →
      IsSomeAnd judged (λ j. AreOptimal (map problem_of weeks) given (map set_of j.rosters.items))
