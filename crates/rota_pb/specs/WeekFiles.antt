-- The files of a week, read and checked one after the other, and the faults with which a run stops at them.
use Rattle.std.specs.Prelude.{◌≡◌, ℕ, ◌≤◌, Bool, List, None, ◌+◌}
use Rattle.rota_pb.specs.Imports.{Choice, Fault, File, FileName, HasFault, HasShapeOf, HistoryTables, holding, InstanceTables, IsInstance}
use Rattle.rota_pb.specs.Imports.{Layout, max_file_len, Memory, problem_of, Read, RosterTables, ScenarioTables, solution, Spells}
use Rattle.rota_pb.specs.Imports.{SpellsRoster, WeekTables}
use Rattle.rota_core.specs.declared.fault.FileFault.TheVariants as refusals
use Rattle.rota_core.specs.declared.fault.FileName.TheVariants as names
use Rattle.rota_core.specs.declared.fault.Kind.TheVariants.{LateWeek}
use Rattle.rota_read.specs.ScenarioLayout.{scenario}
use Rattle.rota_read.specs.HistoryLayout.{history}
use Rattle.rota_read.specs.WeekLayout.{week}
use Rattle.rota_pb.specs.RunPorts.{FailsWithin, IfKnown, IsRead, IsReadInPart, IsReadUpTo, Reader, WeekReaders}
use Rattle.rota_pb.specs.Steps.{Step, ◌>>=◌, call, check, find, only_if_asked}

-- Why a file is refused: it was read to its end, or to one byte more than a file may have, and its bytes have the fault; or memory ran
-- out after some of it or its end was read, and its source did not fail during the run; or its source failed before its end and that byte.
abbrev pub FailsCheck : {V : Type 0} → FileName → Layout V → Reader → Fault → Type 0
FailsCheck name layout reader (File (refusals.Bad kind file line)) =
    (file ≡ name) × IfKnown reader (λ bytes. HasFault layout bytes (record { kind = kind; line = line })) ×
    ((taken : List ℕ) × IsReadUpTo (max_file_len + 1) reader taken)
FailsCheck name layout reader Memory = IsReadInPart reader
FailsCheck name layout reader Read = FailsWithin (max_file_len + 1) reader
FailsCheck name layout reader _ = ⊥

-- a file with this layout is read: the result is the value that it spells, or the fault of a failed check
abbrev pub read_file : {V : Type 0} → FileName → Layout V → Reader → Step V
read_file name layout reader = call reader (IsRead (Spells layout) reader) (FailsCheck name layout reader)

-- a solution file is read: the result is the roster that it spells, or the fault of a failed check
abbrev pub read_roster : FileName → InstanceTables → Reader → Step RosterTables
read_roster name tables reader =
    call reader (λ roster. IsRead (SpellsRoster tables) reader roster × HasShapeOf (problem_of tables) roster)
    (FailsCheck name (solution tables.scenario) reader)

-- The tables of the three files, with no cell held, within their limits. The week must be one of the scenario's: the history's week
-- number is late if it is not below the scenario's number of weeks.
abbrev pub join : ScenarioTables → HistoryTables → WeekTables → Bool → Step InstanceTables
join s h w early =
    check (λ tables. (tables ≡ record { scenario = s; history = h; week = w; is_early = early; held = None }) × IsInstance tables)
    (λ fault. (s.weeks ≤ h.week) × (fault ≡ File (refusals.Bad LateWeek names.History 0)))

-- the three files are read, and joined
abbrev pub read_tables : Bool → Reader → Reader → Reader → Step InstanceTables
read_tables early scenario_file history_file week_file = do
  s ← read_file names.Scenario scenario scenario_file
  h ← read_file names.History (history s) history_file
  w ← read_file names.Week (week s) week_file
  join s h w early

-- the three files are read; if the fix file is asked for, it is read too, and the cells of its roster are held
abbrev pub read_week : Choice → WeekReaders → Step InstanceTables
read_week choice readers = do
  tables ← read_tables choice.early readers.scenario readers.history readers.week
  only_if_asked choice.fixed tables do
    roster ← read_roster names.Fixed tables readers.fix
    find (λ held. (held ≡ holding tables roster) × IsInstance held)
