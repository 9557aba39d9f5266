-- The effects of a run of the program, from its words to its exit status.
use Rattle.std.specs.Prelude.{◌≡◌, ℕ, Result, Ok, Err, IsSomeAnd}
use Rattle.clap.specs.Words.{subcommand_of}
use Rattle.rota_pb.specs.RunPorts.{IsUntouched, Reader, Writer, writer_of}
use Rattle.rota_pb.specs.declared.fault.Fault.{Fault}
use Rattle.rota_pb.specs.declared.period_fault.PeriodFault.TheVariants.{Run}
use Rattle.byte_ports.specs.Openers.{Opener}
use Rattle.inrc2pb_program.specs.JobOutcomes.{JobOutcome}
use Rattle.inrc2pb_program.specs.CommandLine.{inrc2pb_app}
use Rattle.inrc2pb_frame.specs.Placing.{IsPlaced, JobFile}
use Rattle.inrc2pb_frame.specs.Exits.{PrinterState}
use Rattle.inrc2pb_frame.specs.Given.{Given}
use Rattle.inrc2pb_frame.specs.Runs.{IsRun, IsWholeRun, Program}
use Rattle.inrc2pb_frame.specs.declared.stop.Stop.{Stop}
use Rattle.inrc2pb_frame.specs.declared.stop.Stop.TheVariants as stops
use Rattle.inrc2pb_program.specs.Jobs.{IsJobOf, Job, LacksPath, output_path_of}

-- the program `inrc2pb`: words are misused if a required path is missing
abbrev pub inrc2pb : Program Job
inrc2pb = record {
  app = inrc2pb_app;
  Spells = λ words job. IsSomeAnd (subcommand_of inrc2pb_app words) (λ matched. IsJobOf matched job);
  Misuses = λ words. IsSomeAnd (subcommand_of inrc2pb_app words) LacksPath;
}

-- no file was opened, and the job's file, the input and the output were not touched
pub record AreUntouched {F : Type 0} (opener : Opener F) (job_file : JobFile) (reader : Reader) (writer : Writer) : Type 0 where
  pub unopened : opener.log ≡ opener.log_before
  pub input : IsUntouched reader
  pub file : IsUntouched job_file
  pub output : IsUntouched writer

-- a job ended with the outcome of its result
abbrev pub IsEndOf : Result (Unit {0}) Fault → Result (Unit {0}) Stop → Type 0
IsEndOf (Ok done) ended = ended ≡ Ok tt
IsEndOf (Err fault) ended = ended ≡ Err (stops.Job (Run fault))

-- the job was performed, with the file at its own path, and the program ended as the job did
pub record IsPerformed {F : Type 0} (opener : Opener F) (file : JobFile) (input : Reader) (output : Writer) (job : Job)
    (ended : Result (Unit {0}) Stop) : Type 0 where
  pub placed : file.State
  pub at_its_path : IsPlaced file.port file.old (output_path_of job) placed
  pub result : Result (Unit {0}) Fault
  pub outcome : JobOutcome opener job input (writer_of file.port.target placed file.new) output result
  pub end : IsEndOf result ended

-- A run of the program: it stopped before its job, or performed it.
abbrev pub RunOutcome : {F X Z : Type 0} → Opener F → JobFile → Given X Z → Reader → Writer → Result (Unit {0}) Stop → Type 0
RunOutcome opener file words input output ended =
    IsRun inrc2pb words (AreUntouched opener file input output) (IsPerformed opener file input output) ended

-- A run of the program, from its words to its status: its effects, its messages on the output and on the standard error, and its exit
-- status.
abbrev pub ProgramOutcome : {F X Z : Type 0} → Opener F → JobFile → Given X Z → Reader → Writer → PrinterState → PrinterState →
    ℕ → Type 0
ProgramOutcome opener file words input output help errors status =
    IsWholeRun inrc2pb words (AreUntouched opener file input output) (IsPerformed opener file input output) help errors status
