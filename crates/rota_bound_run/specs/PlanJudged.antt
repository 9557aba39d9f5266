-- The rosters of all weeks of a period, and the facts that they must meet.
use Rattle.std.specs.Prelude.{◌≡◌, ℕ, ⊤, List, [], ◌∷◌, ◌++◌, length, map, Option, None, Some, slice_get}
use Rattle.rota_core.specs.InstanceTables.{InstanceTables, problem_of}
use Rattle.rota_core.specs.RosterTables.{RosterTables, set_of}
use Rattle.rota_certificate.specs.UnmetConditions.{IsFirstUnmetCondition}
use Rattle.rota_certificate.specs.Plans.{plan_cost, plan_from}
use Rattle.rota_certificate.specs.Facts.{Case}
use Rattle.rota_certificate.specs.Optimality.{KeepAndMeet}
use Rattle.rota_certificate_read.specs.FactsLayout.{GivenTables}
use Rattle.rota_pb.specs.RunPorts.{Reader}
use Rattle.rota_pb.specs.declared.period_fault.PeriodFault.TheVariants.{Unmet}
use Rattle.rota_pb.specs.Steps.{◌>>=◌, check}
use Rattle.rota_bound_run.specs.Judging.{history_before, judge_week}
use Rattle.rota_bound_run.specs.PeriodSteps.{Optional, PeriodStep, for_week, in_turn, make}
use Rattle.rota_bound_run.specs.declared.judged.Judged.{Judged}

-- a step for a week that exists
abbrev pub for_some : {W A : Type 0} → Option W → (W → PeriodStep A) → PeriodStep A
for_some (Some week) step = step week
for_some None step = record { ends = λ result. ⊥; untouched = ⊤ }

-- one more roster is read and judged, of the first week that has none
abbrev pub judge_next : List InstanceTables → List RosterTables → Reader → PeriodStep (List RosterTables)
judge_next weeks rosters reader = for_some (slice_get weeks (length rosters)) λ week. do
  roster ← for_week (length weeks) (length rosters) (judge_week week (history_before (map problem_of weeks) (map set_of rosters)) reader)
  check (λ more. more ≡ rosters ++ roster ∷ []) (λ fault. ⊥)

-- the rosters keep the hard rules of the weeks and meet the given facts, at this penalty
pub record IsJudged (weeks : List InstanceTables) (given : Case) (judged : Judged) : Type 0 where
  pub feasible : KeepAndMeet (map problem_of weeks) given (map set_of judged.rosters.items)
  pub penalty_is : judged.penalty ≡ plan_cost (plan_from weeks judged.rosters.items)

-- the rosters do not meet a given fact: the first that they do not meet begins on this line
pub record IsUnmet (weeks : List InstanceTables) (given : GivenTables) (rosters : List RosterTables) (line : ℕ) : Type 0 where
  pub index : ℕ
  pub first : IsFirstUnmetCondition (plan_from weeks rosters) given.conditions index
  pub begins : slice_get given.lines index ≡ Some line

-- the rosters must meet the given facts
abbrev pub meet_given : List InstanceTables → GivenTables → List RosterTables → PeriodStep Judged
meet_given weeks given rosters =
    check (λ judged. (judged.rosters.items ≡ rosters) × IsJudged weeks given.conditions judged)
    (λ fault. (line : ℕ) × (fault ≡ Unmet line) × IsUnmet weeks given rosters line)

-- if there is memory for the rosters and for the pasts, the rosters are read and judged in the order of the weeks
abbrev pub judge_all : List InstanceTables → List (Optional Reader) → PeriodStep (List RosterTables)
judge_all weeks readers = do
  _ ← make {A = Unit {0}} (λ _. ⊤)
  in_turn (judge_next weeks) [] readers

-- the rosters are read and judged, and must meet the given facts; there may be none
abbrev pub judge_plan : List InstanceTables → GivenTables → List (Optional Reader) → PeriodStep (Option Judged)
judge_plan weeks given [] = check (λ judged. judged ≡ None) (λ fault. ⊥)
judge_plan weeks given (reader ∷ readers) = do
  rosters ← judge_all weeks (reader ∷ readers)
  judged ← meet_given weeks given rosters
  check (λ found. found ≡ Some judged) (λ fault. ⊥)
