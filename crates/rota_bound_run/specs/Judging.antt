-- The rosters of a period, read and judged one after the other: each after the history that the rosters before it leave.
use Rattle.std.specs.Prelude.{◌≡◌, ℕ, ◌<◌, List, [], ◌∷◌}
use Rattle.rota_core.specs.Defaults.{no_past}
use Rattle.rota_core.specs.HardRules.{KeepsHardRules}
use Rattle.rota_core.specs.InstanceTables.{InstanceTables, problem_of}
use Rattle.rota_core.specs.Problem.{Problem}
use Rattle.rota_core.specs.Roster.{Roster}
use Rattle.rota_core.specs.RosterTables.{RosterTables, set_of}
use Rattle.rota_core.specs.WeekTables.{IsPast}
use Rattle.rota_core.specs.declared.fault.FileFault.TheVariants as refusals
use Rattle.rota_core.specs.declared.fault.FileName.TheVariants as names
use Rattle.rota_core.specs.declared.fault.Kind.TheVariants.{Limit}
use Rattle.rota_certificate.specs.Plans.{Pasts, after, history_after}
use Rattle.rota_pb.specs.Extending.{BreaksRule}
use Rattle.rota_pb.specs.RunPorts.{Reader}
use Rattle.rota_pb.specs.Steps.{Step, ◌>>=◌, check}
use Rattle.rota_pb.specs.StepsInTurn.{◌>>◌}
use Rattle.rota_pb.specs.WeekFiles.{read_roster}
use Rattle.rota_pb.specs.declared.fault.Fault.{Fault}
use Rattle.rota_pb.specs.declared.fault.Fault.TheVariants.{File}

-- ---- the history before a later week

-- the history after the first weeks, those that have a roster, if this one is before them
unfoldable pub history_left : Pasts → List Problem → List Roster → Pasts
history_left history [] rosters = history
history_left history (week ∷ weeks) [] = history
history_left history (week ∷ weeks) (roster ∷ rosters) = history_left (history_after (after week history) roster) weeks rosters

-- the history after the weeks that have a roster; `past` of each week is the history before the first week
abbrev pub history_before : List Problem → List Roster → Pasts
history_before [] rosters = λ n. no_past
history_before (first ∷ later) rosters = history_left first.past (first ∷ later) rosters

-- the pasts of the week's nurses are within the limits of a history's file
abbrev pub ArePastsOf : Problem → Type 0
ArePastsOf week = (n : ℕ) → n < week.nurses → IsPast week.shifts (week.past n)

-- one of them is not
pub record IsBeyond (week : Problem) (fault : Fault) : Type 0 where
  pub beyond : ArePastsOf week → ⊥
  pub is : fault ≡ File (refusals.Bad Limit names.History 0)

-- ---- the roster of a week

-- the roster keeps the hard rules of the week, or breaks one
abbrev pub judge_roster : Problem → RosterTables → Step RosterTables
judge_roster week roster =
    check (λ judged. (judged ≡ roster) × KeepsHardRules week (set_of roster)) (BreaksRule week (set_of roster))

-- the roster of the week is read, and judged after this history
abbrev pub judge_week : InstanceTables → Pasts → Reader → Step RosterTables
judge_week tables history reader = do
  check (λ _. ArePastsOf (after (problem_of tables) history)) (IsBeyond (after (problem_of tables) history))
  roster ← read_roster names.Solution tables reader
  judge_roster (after (problem_of tables) history) roster
