-- The end of the program for an error of clap.
use Rattle.std.specs.Prelude.{◌≡◌, ◌⊎◌}
use Rattle.clap.specs.Words.{kind_of}
use Rattle.clap.specs.declared.error.Error.{Error}
use Rattle.clap.specs.declared.error.kind.ErrorKind.TheVariants.{OutOfMemory}
use Rattle.inrc2pb_frame.specs.Faults.{out_of_memory}
use Rattle.inrc2pb_frame.specs.Stops.{IsAskedFor, Stop}
use Rattle.inrc2pb_frame.specs.declared.stop.Stop.TheVariants as stopped

-- the reason for an error of clap: a requested text is shown, and if memory ran out, the program ends as a job would
abbrev pub IsStopOf : Error → Stop → Type 0
IsStopOf error stop = (IsAskedFor (kind_of error) → stop ≡ stopped.Shown error)
    × (kind_of error ≡ OutOfMemory → stop ≡ stopped.Job out_of_memory)
    × ((stop ≡ stopped.Words error) ⊎ (IsAskedFor (kind_of error) ⊎ (kind_of error ≡ OutOfMemory)))
