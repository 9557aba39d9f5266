-- The first given condition that a plan does not meet.
use Rattle.std.specs.Prelude.{◌≡◌, ◌≢◌, ℕ, Some, slice_get, take}
use Rattle.rota_core.specs.declared.certificate.Condition.{Condition}
use Rattle.rota_certificate.specs.Facts.{Case, IsIn, is_fact}
use Rattle.rota_certificate.specs.Plans.{Plan}

-- the condition with this index is the first that the plan does not meet
pub record IsFirstUnmetCondition (plan : Plan) (given : Case) (index : ℕ) : Type 0 where
  pub condition : Condition
  pub is : slice_get given index ≡ Some condition
  pub unmet : is_fact plan condition.fact ≢ condition.holds
  pub earlier : IsIn plan (take index given)
