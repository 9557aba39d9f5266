-- The readers of a period's files.
use Rattle.std.specs.Prelude.{◌≡◌, ℕ, ◌<◌, ◌⊎◌, List, [], ◌∷◌, length, Option, Some, None}
use Rattle.byte_ports.specs.declared.ports.Source.{Ghosts as SourceGhosts}
use Rattle.rota_pb.specs.RunPorts.{Reader, reader_of}
use Rattle.rota_bound_run.specs.PeriodSteps.{Optional, absent, let_go, read_by}
use Rattle.rota_bound_run.specs.declared.files.PeriodFiles.{PeriodFiles}
use Rattle.rota_bound_run.specs.declared.files.WeekFiles.{WeekFiles}

-- there is no roster, or one for each of this number of weeks
abbrev pub AreRosters : {S : Type 0} → (weeks : ℕ) → List S → Type 0
AreRosters weeks rosters = (length rosters ≡ 0) ⊎ (length rosters ≡ weeks)

-- there is a week, and there is no roster or one for each week
pub record AreFiles {S : Type 0} (files : PeriodFiles S) : Type 0 where
  pub some : 0 < length files.weeks.items
  pub rosters : AreRosters (length files.weeks.items) files.rosters.items

-- the readers of a week's data and of its held cells
pub record FilesOfWeek : Type 1 where
  pub week : Reader
  pub fix : Optional Reader

-- the readers of a period's files
pub record FilesOfPeriod : Type 1 where
  pub scenario : Reader
  pub history : Reader
  pub weeks : List (Optional FilesOfWeek)
  pub given : Optional Reader
  pub proof : Optional Reader
  pub rosters : List (Optional Reader)

-- ---- files before and after a run

-- a reader for each of the files that are these before the run, in their order, and those after it
unfoldable pub each_of : {X : Type 0} {R : Type 1} → (X → X → R) → List X → List X → List (Optional R)
each_of one_of [] news = []
each_of one_of (old ∷ olds) [] = let_go ∷ each_of one_of olds []
each_of one_of (old ∷ olds) (new ∷ news) = read_by (one_of old new) ∷ each_of one_of olds news

-- the reader of a file that may be missing: it is there if the file was there before the run
abbrev pub reader_if : {S : Type 0} → SourceGhosts S → Option S → Option S → Optional Reader
reader_if port None new = absent
reader_if port (Some old) None = let_go
reader_if port (Some old) (Some new) = read_by (reader_of port old new)

-- the readers of a week's files that are these before the run and those after it
abbrev pub week_readers : {S : Type 0} → SourceGhosts S → WeekFiles S → WeekFiles S → FilesOfWeek
week_readers port old new = record { week = reader_of port old.week new.week; fix = reader_if port old.fix new.fix }

-- the readers of the files of a period that are these before the run and those after it
abbrev pub period_readers : {S : Type 0} → SourceGhosts S → PeriodFiles S → PeriodFiles S → FilesOfPeriod
period_readers port old new = record {
  scenario = reader_of port old.scenario new.scenario;
  history = reader_of port old.history new.history;
  weeks = each_of (week_readers port) old.weeks.items new.weeks.items;
  given = reader_if port old.given new.given;
  proof = reader_if port old.proof new.proof;
  rosters = each_of (reader_of port) old.rosters.items new.rosters.items;
}
