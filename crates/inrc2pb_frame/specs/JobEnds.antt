-- The ends of a program for a job: what each exit status says of what follows from the files, and of what was written.
use Rattle.std.specs.Prelude.{◌≡◌, ◌≢◌, ◌⊎◌, ℕ, Ok, Err}
use Rattle.clap.specs.Words.{Text}
use Rattle.rota_pb.specs.PeriodFaults.{period_status}
use Rattle.rota_pb.specs.Steps.{StepOf}
use Rattle.rota_pb.specs.declared.fault.Fault.{Fault}
use Rattle.rota_pb.specs.declared.fault.Fault.TheVariants.{Memory, Read, Write}
use Rattle.rota_pb.specs.declared.period_fault.PeriodFault.{PeriodFault}
use Rattle.rota_pb.specs.declared.period_fault.PeriodFault.TheVariants.{InWeek, Run}
use Rattle.inrc2pb_frame.specs.Contents.{IsKnown}
use Rattle.byte_ports.specs.Paths.{FileAt, Path}
use Rattle.inrc2pb_frame.specs.Exits.{IsPrinted, PrinterState, message_for}
use Rattle.inrc2pb_frame.specs.Given.{Given, IsJobGiven}
use Rattle.inrc2pb_frame.specs.Runs.{IsJobFor, Program}
use Rattle.inrc2pb_frame.specs.declared.stop.Stop.TheVariants as stops

-- the program with this name reports the fault on the standard error, and returns its status
pub record Reports (program : Text) (errors : PrinterState) (status : ℕ) (fault : PeriodFault) : Type 0 where
  pub printed : IsPrinted errors (message_for program (stops.Job fault))
  pub returned : status ≡ period_status fault

-- the fault is this one, of the whole run or of a week
abbrev pub IsFor : Fault → PeriodFault → Type 0
IsFor one fault = (fault ≡ Run one) ⊎ ((week : ℕ) × (fault ≡ InWeek week one))

-- what was written: nothing, all for a value, or a beginning of it
pub record Written (A : Type 0) : Type 1 where
  pub nothing : Type 0
  pub all : A → Type 0
  pub beginning : A → Type 0

-- The status is 0, and all was written for the value that follows from the files. Or it is the status of the first fault in the files, of
-- want of memory, or of a file that was not read, and nothing was written. Or a write failed after a beginning. The fault is reported.
pub data EndsBy {F A : Type 0} (files : StepOf F A) (named : F → PeriodFault) (written : Written A) (program : Text) (errors : PrinterState)
    (status : ℕ) : Type 0 where
  done : (value : A) → files.ends (Ok value) → written.all value → status ≡ 0 → EndsBy files named written program errors status
  refused : (fault : F) → files.ends (Err fault) → written.nothing → Reports program errors status (named fault) →
      EndsBy files named written program errors status
  unread : (fault : PeriodFault) → IsFor Read fault → written.nothing → Reports program errors status fault →
      EndsBy files named written program errors status
  lacks_memory : (fault : PeriodFault) → IsFor Memory fault → written.nothing → Reports program errors status fault →
      EndsBy files named written program errors status
  unwritten : (value : A) → files.ends (Ok value) → written.beginning value → Reports program errors status (Run Write) →
      EndsBy files named written program errors status

-- the words spell a job, and the program ended by its files
pub record EndsByFiles {Job X Z : Type 0} (program : Program Job) (words : Given X Z) (Ends : Job → Type 0) : Type 0 where
  pub job : Job
  pub spelled : IsJobGiven (IsJobFor program) words job
  pub ends : Ends job

-- If the words spell a job, it is known what lies at each path before the run, and the status is not 2, then after a run with this outcome
-- the program ended by the files at the paths of the job.
abbrev pub FollowsFromFiles : {Job X Z : Type 0} → Program Job → Given X Z → (Path → FileAt) → (Ends : Job → Type 0) → ℕ → (Outcome : Type 0) →
    Type 0
FollowsFromFiles {Job} program words at Ends status Outcome =
    (job : Job) → IsJobGiven (IsJobFor program) words job → ((path : Path) → IsKnown (at path)) → status ≢ 2 → Outcome →
    EndsByFiles program words Ends
