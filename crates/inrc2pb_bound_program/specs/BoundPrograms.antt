-- The effects of a run of the bound's program, from its words to its exit status.
use Rattle.std.specs.Prelude.{◌≡◌, ℕ, Result, Ok, Err}
use Rattle.clap.specs.Words.{matches_of}
use Rattle.byte_ports.specs.Openers.{Opener, OpensAs}
use Rattle.byte_ports.specs.declared.open_files.OpenFault.{OpenFault}
use Rattle.rota_pb.specs.OpenFaults.{fault_of_opening}
use Rattle.rota_pb.specs.RunPorts.{IsUntouched, Writer}
use Rattle.inrc2pb_frame.specs.Exits.{PrinterState}
use Rattle.inrc2pb_frame.specs.Given.{Given}
use Rattle.inrc2pb_frame.specs.Runs.{IsRun, IsWholeRun, Program}
use Rattle.inrc2pb_frame.specs.declared.stop.Stop.{Stop}
use Rattle.inrc2pb_frame.specs.declared.stop.Stop.TheVariants as stops
use Rattle.rota_bound_run.specs.Bounding.{AnswersFrom}
use Rattle.rota_bound_run.specs.declared.files.PeriodFiles.{PeriodFiles}
use Rattle.rota_pb.specs.declared.period_fault.PeriodFault.{PeriodFault}
use Rattle.rota_pb.specs.declared.period_fault.PeriodFault.TheVariants.{Run}
use Rattle.inrc2pb_bound_program.specs.BoundJobs.{IsBoundJobOf, IsMisused}
use Rattle.inrc2pb_bound_program.specs.CommandLine.{bound_app}
use Rattle.inrc2pb_bound_program.specs.PeriodOpening.{open_period}
use Rattle.inrc2pb_bound_program.specs.declared.job.BoundJob.{BoundJob}

-- the program `inrc2pb-bound`
abbrev pub inrc2pb_bound : Program BoundJob
inrc2pb_bound = record {
  app = bound_app;
  Spells = λ words. IsBoundJobOf (matches_of bound_app words);
  Misuses = λ words. IsMisused (matches_of bound_app words);
}

-- Not all files were opened, and nothing was written; or the files were open at their paths, and the run answered the job's question from
-- them: they are `opened` before the run, and `left` after it.
pub data BoundOutcome {F : Type 0} (opener : Opener F) (job : BoundJob) (out : Writer) (result : Result (Unit {0}) PeriodFault) :
    Type 0 where
  unopened : (fault : OpenFault) → result ≡ Err (Run (fault_of_opening fault)) →
      OpensAs opener (open_period opener.port job.paths) (Err fault) → IsUntouched out → BoundOutcome opener job out result
  ran : (opened left : PeriodFiles F) → OpensAs opener (open_period opener.port job.paths) (Ok opened) →
      AnswersFrom job.question opener.port opened left out result → BoundOutcome opener job out result

-- no file was opened, and nothing was written
pub record IsIdle {F : Type 0} (opener : Opener F) (writer : Writer) : Type 0 where
  pub unopened : opener.log ≡ opener.log_before
  pub output : IsUntouched writer

-- the end of the program for a job's result
abbrev pub end_of : Result (Unit {0}) PeriodFault → Result (Unit {0}) Stop
end_of (Ok done) = Ok tt
end_of (Err fault) = Err (stops.Job fault)

-- the job was performed, and the program ended as the job did
pub record IsAnswered {F : Type 0} (opener : Opener F) (output : Writer) (job : BoundJob) (ended : Result (Unit {0}) Stop) : Type 0 where
  pub result : Result (Unit {0}) PeriodFault
  pub outcome : BoundOutcome opener job output result
  pub end : ended ≡ end_of result

-- A run of the program: it stopped before its job, or performed it.
abbrev pub BoundRunOutcome : {F X Z : Type 0} → Opener F → Given X Z → Writer → Result (Unit {0}) Stop → Type 0
BoundRunOutcome opener words output ended =
    IsRun inrc2pb_bound words (IsIdle opener output) (IsAnswered opener output) ended

-- A run of the program, from its words to its status: its effects, its messages on the output and on the standard error, and its exit
-- status.
abbrev pub BoundProgramOutcome : {F X Z : Type 0} → Opener F → Given X Z → Writer → PrinterState → PrinterState → ℕ → Type 0
BoundProgramOutcome opener words output help errors status =
    IsWholeRun inrc2pb_bound words (IsIdle opener output) (IsAnswered opener output) help errors status
