-- A week whose roster is judged, and the pasts of its nurses.
use Rattle.std.specs.Prelude.{◌≡◌, ℕ, ◌<◌, List, length, slice_index_or}
use Rattle.rota_core.specs.Defaults.{no_past}
use Rattle.rota_core.specs.HardRules.{KeepsHardRules}
use Rattle.rota_core.specs.Problem.{Problem}
use Rattle.rota_core.specs.Roster.{Roster}
use Rattle.rota_core.specs.RosterTables.{RosterTables, set_of}
use Rattle.rota_core.specs.declared.values.Past.{Past}
use Rattle.rota_rules.specs.CostBounds.{penalty_limit}
use Rattle.rota_rules.specs.Penalty.{penalty}
use Rattle.rota_certificate.specs.Plans.{Pasts, history_after}
use Rattle.rota_bound_run.specs.declared.judged_week.JudgedWeek.{JudgedWeek}

-- these are the pasts of the nurses in the history
pub record ArePastsIn (nurses : ℕ) (history : Pasts) (pasts : List Past) : Type 0 where
  pub count : length pasts ≡ nurses
  pub each : (n : ℕ) → n < nurses → slice_index_or pasts n no_past ≡ history n

-- the roster keeps the hard rules of the week, and this is its penalty
pub record IsPenalty (week : Problem) (roster : Roster) (points : ℕ) : Type 0 where
  pub keeps : KeepsHardRules week roster
  pub penalty_is : points ≡ penalty week roster
  pub small : points < penalty_limit

-- the roster keeps the hard rules of the week, at this penalty, and leaves these pasts
pub record IsJudgedWeek (week : Problem) (roster : RosterTables) (judged : JudgedWeek) : Type 0 where
  pub roster_is : judged.roster ≡ roster
  pub costs : IsPenalty week (set_of roster) judged.penalty
  pub pasts : ArePastsIn week.nurses (history_after week (set_of roster)) judged.pasts.items
