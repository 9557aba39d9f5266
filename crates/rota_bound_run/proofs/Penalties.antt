-- The penalty of rosters that are judged.
use Rattle.std.proofs.Common.{◌≡◌, refl, ap, List}
use Rattle.std.specs.Prelude.{IfSome, None, Option, Some, option_map}
use Rattle.rota_core.specs.InstanceTables.{InstanceTables}
use Rattle.rota_certificate.specs.Facts.{Case}
use Rattle.rota_certificate.specs.Plans.{plan_cost, plan_from}
use Rattle.rota_bound_run.specs.PlanJudged.{IsJudged}
use Rattle.rota_bound_run.specs.declared.judged.Judged.{Judged}

-- the penalty of judged rosters is the cost of their plan
pub penalty_is_cost : (weeks : List InstanceTables) (given : Case) (judged : Option Judged) → IfSome judged (IsJudged weeks given) →
    option_map (λ (j : Judged). j.penalty) judged ≡ option_map (λ (j : Judged). plan_cost (plan_from weeks j.rosters.items)) judged
penalty_is_cost weeks given None are = refl
penalty_is_cost weeks given (Some one) are = ap Some are.penalty_is
