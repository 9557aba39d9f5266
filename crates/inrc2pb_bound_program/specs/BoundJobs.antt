-- The job that the options spell.
use Rattle.std.specs.Prelude.{◌≡◌, ◌≢◌, ◌⊎◌, ◌<◌, ◌≤◌, true, false, List, [], Some, codes}
use Rattle.std.specs.Prelude.{length, map, option_map, string_bytes}
use Rattle.std.specs.Prelude.{unwrap_or}
use Rattle.std.specs.List.{range_with_len}
use Rattle.rota_core.specs.Limits.{max_weeks}
use Rattle.std.specs.declared.string.String.{String}
use Rattle.clap.specs.Words.{Row, Text, all_of, first_of}
use Rattle.inrc2pb_frame.specs.Options.{HasFlag, LacksOption}
use Rattle.rota_bound_run.specs.PeriodFiles.{AreFiles}
use Rattle.rota_bound_run.specs.declared.files.PeriodFiles.{PeriodFiles}
use Rattle.rota_bound_run.specs.declared.files.WeekFiles.{WeekFiles}
use Rattle.inrc2pb_bound_program.specs.FixTexts.{are_fixes, fix_of}
use Rattle.inrc2pb_bound_program.specs.declared.job.BoundJob.{BoundJob}

-- the texts of an option that may be given several times
abbrev pub texts_of : Text → List Row → List Text
texts_of id options = unwrap_or (all_of id options) []

-- the paths of each week: the n-th of these texts, and the one that the texts of `--fix` name for its number
pub record HaveWeekPaths {X : Type 0} (fixes texts : List Text) (weeks : List (WeekFiles (String X))) : Type 0 where
  pub week : map (λ week. string_bytes week.week) weeks ≡ texts
  pub fix : map (λ week. option_map string_bytes week.fix) weeks
      ≡ map (fix_of (length texts) fixes) (range_with_len 1 (length texts))

-- the paths of the files come from the options, unchanged
pub record HasPaths {X : Type 0} (options : List Row) (paths : PeriodFiles (String X)) : Type 0 where
  pub scenario : first_of (codes "sce") options ≡ Some (string_bytes paths.scenario)
  pub history : first_of (codes "his") options ≡ Some (string_bytes paths.history)
  pub weeks : HaveWeekPaths (texts_of (codes "fix") options) (texts_of (codes "week") options) paths.weeks.items
  pub given : first_of (codes "given") options ≡ option_map string_bytes paths.given
  pub proof : first_of (codes "proof") options ≡ option_map string_bytes paths.proof
  pub rosters : texts_of (codes "roster") options ≡ map string_bytes paths.rosters.items

-- The paths and flags of the job come from the options, unchanged. There are weeks, but no more than a scenario may have, and no roster or
-- one for each; no roster with the minimums; and each `--fix` is of another of the weeks.
pub record IsBoundJobOf (options : List Row) (job : BoundJob) : Type 0 where
  pub paths : HasPaths options job.paths
  pub early : HasFlag (codes "early") options job.question.early
  pub minimums : HasFlag (codes "minimums") options job.question.minimums
  pub files : AreFiles job.paths
  pub few : length job.paths.weeks.items ≤ max_weeks
  pub apart : job.question.minimums ≡ true → length (texts_of (codes "roster") options) ≡ 0
  pub fixes : are_fixes (length (texts_of (codes "week") options)) (texts_of (codes "fix") options) ≡ true

-- a required path is missing
abbrev pub LacksRequired : List Row → Type 0
LacksRequired options = LacksOption (codes "sce") options ⊎ (LacksOption (codes "his") options
    ⊎ (length (texts_of (codes "week") options) ≡ 0))

-- there are rosters, but more or fewer than weeks
pub record MissesRosters (options : List Row) : Type 0 where
  pub some : 0 < length (texts_of (codes "roster") options)
  pub other : length (texts_of (codes "roster") options) ≢ length (texts_of (codes "week") options)

-- the minimums are asked for, and rosters are given
pub record HasBoth (options : List Row) : Type 0 where
  pub minimums : HasFlag (codes "minimums") options true
  pub rosters : 0 < length (texts_of (codes "roster") options)

-- there are more weeks than a scenario may have, or a `--fix` is of no week, or two are of the same
abbrev pub MissesWeeks : List Row → Type 0
MissesWeeks options = (max_weeks < length (texts_of (codes "week") options))
    ⊎ (are_fixes (length (texts_of (codes "week") options)) (texts_of (codes "fix") options) ≡ false)

-- a required path is missing, or the options do not fit together
abbrev pub IsMisused : List Row → Type 0
IsMisused options = LacksRequired options ⊎ (HasBoth options ⊎ (MissesRosters options ⊎ MissesWeeks options))
