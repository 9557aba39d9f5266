-- The messages of a program when it ends, and its exit status.
use Rattle.std.specs.Prelude.{◌≡◌, ℕ, Bool, false, true, Result, Ok, Err}
use Rattle.rota_pb.specs.PeriodFaults.{period_status}
use Rattle.inrc2pb_frame.specs.Faults.{unwritten}
use Rattle.inrc2pb_frame.specs.Messages.{Message, Messages, Stop, Text, with_message}
use Rattle.inrc2pb_frame.specs.declared.stop.Stop.TheVariants as stops
use Rattle.inrc2pb_frame.specs.declared.printers.Printer.{Ghosts}

-- the printer of messages: its messages before and after, whether a message could not be printed, and that nothing changed
pub record PrinterState : Type 1 where
  pub before : Messages
  pub messages : Messages
  pub failed : Bool
  pub untouched : Type 0

-- the printer that is `old` before and `new` after
abbrev pub printer_state : {T : Type 0} → Ghosts T → T → T → PrinterState
printer_state port old new =
    record { before = port.messages old; messages = port.messages new; failed = port.has_failed new; untouched = new ≡ old }

-- neither printer has failed
pub record AreSound (output_failed errors_failed : Bool) : Type 0 where
  pub output : output_failed ≡ false
  pub errors : errors_failed ≡ false

-- this message was printed, and no other; if it could not be printed, no message was added
pub record IsPrinted (printer : PrinterState) (message : Message) : Type 0 where
  pub out : printer.failed ≡ false → printer.messages ≡ with_message printer.before message
  pub failed : printer.failed ≡ true → printer.messages ≡ printer.before

-- the message of the program with this name for the reason
abbrev pub message_for : Text → Stop → Message
message_for program stop = record { program = program; stop = stop }

-- a requested text is printed on the output, and nothing on the standard error; if it cannot be printed, the failed write is reported on
-- the standard error, and its status is returned
pub record IsShown (program : Text) (stop : Stop) (output errors : PrinterState) (status : ℕ) : Type 0 where
  pub printed : IsPrinted output (message_for program stop)
  pub out : output.failed ≡ false → (status ≡ 0) × errors.untouched
  pub failed : output.failed ≡ true →
      (status ≡ period_status unwritten) × IsPrinted errors (message_for program (stops.Job unwritten))

-- anything else is reported on the standard error alone, and its own status is returned, even if the message could not be printed
pub record IsStopped (message : Message) (wanted : ℕ) (output errors : PrinterState) (status : ℕ) : Type 0 where
  pub printed : IsPrinted errors message
  pub ends : status ≡ wanted
  pub silent : output.untouched

-- the status of a reason that is reported: 2 if the words give no job, and for a job's fault its own status
abbrev pub stop_status : Stop → ℕ
stop_status (stops.Shown text) = 0
stop_status (stops.Words text) = 2
stop_status (stops.Usage text) = 2
stop_status (stops.Job fault) = period_status fault

-- the message and the status if the program with this name did not do its work
abbrev pub IsReported : Text → Stop → PrinterState → PrinterState → ℕ → Type 0
IsReported program (stops.Shown text) output errors status = IsShown program (stops.Shown text) output errors status
IsReported program stop output errors status = IsStopped (message_for program stop) (stop_status stop) output errors status

-- if it did its work nothing is printed, and it exits with 0
abbrev pub IsExitOf : Text → Result (Unit {0}) Stop → PrinterState → PrinterState → ℕ → Type 0
IsExitOf program (Ok done) output errors status = (status ≡ 0) × output.untouched × errors.untouched
IsExitOf program (Err stop) output errors status = IsReported program stop output errors status
