-- The calls that the program's own ports pass on.
use Rattle.std.specs.Prelude.{◌≡◌, ℕ, ◌<◌, Bool, false, List, length, Option, None, Some, Result, IsErr, IsOk}
use Rattle.std.specs.Io.KnownBytes.{Keeps, WriteAppends}
use Rattle.byte_ports.specs.Ports.{KnownBytes}
use Rattle.byte_ports.specs.StdPorts.{inner_writer}
use Rattle.byte_ports.specs.declared.ports.PortFault.{PortFault}
use Rattle.byte_ports.specs.declared.std_ports.ToWrite.{ToWrite}

-- a piece was written to the file, which was opened first if it was not open yet: exactly the bytes that the answer counts; if the file
-- could not be opened, the write of a piece that is not empty failed
abbrev pub IsWritten : {W : Type 0} → (W → KnownBytes) → Option (ToWrite W) → Option (ToWrite W) → Result ℕ PortFault → List ℕ → Type 0
IsWritten contents (Some before) (Some after) result piece =
    WriteAppends (contents (inner_writer before)) (contents (inner_writer after)) result piece
IsWritten contents (Some before) None result piece = ⊥
IsWritten {W} contents None (Some after) result piece =
    (made : W) × WriteAppends (contents made) (contents (inner_writer after)) result piece
IsWritten contents None None result piece = 0 < length piece → IsErr result

-- a flush writes nothing, and creates no file; if there is no file, it is no error of a sound port
abbrev pub IsFlushed : {W : Type 0} → (W → KnownBytes) → (failed : Bool) → Option (ToWrite W) → Option (ToWrite W) →
    Result (Unit {0}) PortFault → Type 0
IsFlushed contents failed (Some before) (Some after) result =
    Keeps (contents (inner_writer before)) (contents (inner_writer after))
IsFlushed contents failed (Some before) None result = ⊥
IsFlushed contents failed None (Some after) result = ⊥
IsFlushed contents failed None None result = failed ≡ false → IsOk result

-- no call changes the path, and a call that is not passed on changes nothing
pub record IsKept {S P : Type 0} (path_of : S → P) (unasked : Type 0) (old new : S) : Type 0 where
  pub path : path_of new ≡ path_of old
  pub whole : unasked → new ≡ old

-- the rest of standard input, if it is in use and its bytes are known
abbrev pub left_of : {R : Type 0} → (R → KnownBytes) → Option R → KnownBytes
left_of remaining (Some reader) = remaining reader
left_of remaining None = None
