-- Why a program ends if its words give no job.
use Rattle.std.specs.Prelude.{◌≡◌, ◌≢◌, ◌⊎◌, List, []}
use Rattle.std.specs.IoError.{error_kind}
use Rattle.std.specs.declared.io.Error.{Error as IoError}
use Rattle.std.specs.declared.io.ErrorKind.TheVariants as io_kind
use Rattle.clap.specs.declared.error.kind.ErrorKind.{ErrorKind}
use Rattle.clap.specs.declared.error.kind.ErrorKind.TheVariants.{DisplayHelp, DisplayVersion}
pub use Rattle.clap.specs.Words.{App, IsAmong, Text, fault_of, kind_of}
pub use Rattle.inrc2pb_frame.specs.declared.stop.Stop.{Stop}
use Rattle.inrc2pb_frame.specs.declared.stop.Stop.TheVariants as stopped
use Rattle.inrc2pb_frame.specs.Faults.{out_of_memory}

-- the kinds of requested texts, which are no mistakes
abbrev pub IsAskedFor : ErrorKind → Type 0
IsAskedFor kind = (kind ≡ DisplayHelp) ⊎ (kind ≡ DisplayVersion)

-- memory ran out, or the options are misused if `misused` says so
abbrev pub IsForMemoryOr : (misused : Type 0) → Stop → Type 0
IsForMemoryOr misused (stopped.Shown text) = ⊥
IsForMemoryOr misused (stopped.Words text) = ⊥
IsForMemoryOr misused (stopped.Usage text) = misused
IsForMemoryOr misused (stopped.Job fault) = fault ≡ out_of_memory

-- why a program with this command ends without the job of these words: it shows a requested text, or reports clap's reason, only if this is
-- the kind of a fault in the words; it reports a reason of its own only if the words have no fault and are misused; otherwise memory ran out
abbrev pub IsStopOfApp : App → (misused : Type 0) → List Text → Stop → Type 0
IsStopOfApp app misused words (stopped.Shown text) = IsAmong (kind_of text) (fault_of app words) × IsAskedFor (kind_of text)
IsStopOfApp app misused words (stopped.Words text) = IsAmong (kind_of text) (fault_of app words) × ¬ IsAskedFor (kind_of text)
IsStopOfApp app misused words (stopped.Usage text) = (fault_of app words ≡ []) × misused
IsStopOfApp app misused words (stopped.Job fault) = fault ≡ out_of_memory

-- why words that are not text, or for which there was not enough memory, give no job
abbrev pub IsStopForError : IoError → Stop → Type 0
IsStopForError error (stopped.Shown text) = ⊥
IsStopForError error (stopped.Words text) = ⊥
IsStopForError error (stopped.Usage text) = error_kind error ≢ io_kind.OutOfMemory
IsStopForError error (stopped.Job fault) = (fault ≡ out_of_memory) × (error_kind error ≡ io_kind.OutOfMemory)
