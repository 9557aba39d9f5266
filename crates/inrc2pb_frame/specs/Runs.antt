-- A run of a program, from its words to its status.
use Rattle.std.specs.Prelude.{◌≡◌, ℕ, List, [], Result, Err}
use Rattle.clap.specs.Words.{App, Text, fault_of}
use Rattle.inrc2pb_frame.specs.Exits.{IsExitOf, PrinterState}
use Rattle.inrc2pb_frame.specs.Given.{Given, IsJobGiven, IsStopGiven}
use Rattle.inrc2pb_frame.specs.Stops.{IsStopOfApp, Stop}

-- a program: its command, the jobs that words spell, and the words that spell none though the command takes them
pub record Program (Job : Type 0) : Type 1 where
  pub app : App
  pub Spells : List Text → Job → Type 0
  pub Misuses : List Text → Type 0

-- the job of the words, if nothing is wrong with them
pub record IsJobFor {Job : Type 0} (program : Program Job) (words : List Text) (job : Job) : Type 0 where
  pub taken : fault_of program.app words ≡ []
  pub spelled : program.Spells words job

-- why the program ends without the job of these words
abbrev pub IsStopFor : {Job : Type 0} → Program Job → List Text → Stop → Type 0
IsStopFor program words = IsStopOfApp program.app (program.Misuses words) words

-- The words gave no job, or memory ran out before the job began, and nothing was touched. Or the words gave a job, it was performed, and
-- the program ended as `Performed` says.
pub data IsRun {Job X Z : Type 0} (program : Program Job) (words : Given X Z) (untouched : Type 0)
    (Performed : Job → Result (Unit {0}) Stop → Type 0) (ended : Result (Unit {0}) Stop) : Type 0 where
  stopped : (stop : Stop) → ended ≡ Err stop → IsStopGiven (IsStopFor program) words stop → untouched →
      IsRun program words untouched Performed ended
  performed : (job : Job) → IsJobGiven (IsJobFor program) words job → Performed job ended →
      IsRun program words untouched Performed ended

-- A run of the program, from its words to its exit status: its effects, its messages, which have the name of its command, and the status.
abbrev pub IsWholeRun : {Job X Z : Type 0} → Program Job → Given X Z → (untouched : Type 0) →
    (Performed : Job → Result (Unit {0}) Stop → Type 0) → PrinterState → PrinterState → ℕ → Type 0
IsWholeRun program words untouched Performed help errors status =
    (ended : Result (Unit {0}) Stop) × IsRun program words untouched Performed ended
    × IsExitOf program.app.top.name ended help errors status
