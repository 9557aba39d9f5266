-- A run's readers and writers, before and after it.
use Rattle.std.specs.Prelude.{◌≡◌, true, List, ℕ, ◌⊎◌, ◌<◌, ◌≤◌, length, Some}
use Rattle.std.specs.Io.KnownBytes.{IsAtEnd, prepend_known, append_known}
use Rattle.byte_ports.specs.Ports.{Begins, known_len}
use Rattle.byte_ports.specs.declared.ports.Source.{Ghosts as SourceGhosts}
use Rattle.byte_ports.specs.declared.ports.Target.{Ghosts as TargetGhosts}

-- A port of a run: its state before and after the run, and its ghosts, which describe a state.
pub record RunPort (Ghosts : Type 0 → Type 1) : Type 1 where
  pub State : Type 0
  pub port : Ghosts State
  pub old : State
  pub new : State

-- the run did not touch the port
abbrev pub IsUntouched : {Ghosts : Type 0 → Type 1} → RunPort Ghosts → Type 0
IsUntouched port = port.new ≡ port.old

-- a source that a run may read
abbrev pub Reader : Type 1
Reader = RunPort SourceGhosts

-- the source that is `old` before a run and `new` after it
abbrev pub reader_of : {S : Type 0} → SourceGhosts S → S → S → Reader
reader_of {S} port old new = record { State = S; port = port; old = old; new = new }

-- a target that a run may write
abbrev pub Writer : Type 1
Writer = RunPort TargetGhosts

-- the target that is `old` before a run and `new` after it
abbrev pub writer_of : {W : Type 0} → TargetGhosts W → W → W → Writer
writer_of {W} port old new = record { State = W; port = port; old = old; new = new }

-- the readers of a week's three files, and the reader of its fix file
pub record WeekReaders : Type 1 where
  pub scenario : Reader
  pub history : Reader
  pub week : Reader
  pub fix : Reader

-- if the bytes that the reader had left before the run are known, `Are` holds for them
abbrev pub IfKnown : Reader → (List ℕ → Type 0) → Type 0
IfKnown reader Are = (bytes : List ℕ) → reader.port.left reader.old ≡ Some bytes → Are bytes

-- these bytes were taken from the reader, and it did not fail during the run
pub record IsTaken (reader : Reader) (taken : List ℕ) : Type 0 where
  pub front : reader.port.left reader.old ≡ prepend_known taken (reader.port.left reader.new)
  pub sound : reader.port.has_failed reader.new ≡ reader.port.has_failed reader.old

-- it reported its end: no byte is left
pub record IsEnded (reader : Reader) : Type 0 where
  pub none_left : IsAtEnd (reader.port.left reader.new)
  pub reported : reader.port.has_ended reader.new ≡ true

-- these bytes were taken, the reader has failed, and the run did not change whether its end was reported
pub record FailsAfter (reader : Reader) (taken : List ℕ) : Type 0 where
  pub front : reader.port.left reader.old ≡ prepend_known taken (reader.port.left reader.new)
  pub failure : reader.port.has_failed reader.new ≡ true
  pub unended : reader.port.has_ended reader.new ≡ reader.port.has_ended reader.old

-- all its bytes were taken, up to its end
abbrev pub IsReadToEnd : Reader → Type 0
IsReadToEnd reader = (taken : List ℕ) × IsTaken reader taken × IsEnded reader

-- it was read to its end, and its bytes, if they are known, mean the value
abbrev pub IsRead : {V : Type 0} → (List ℕ → V → Type 0) → Reader → V → Type 0
IsRead Means reader value = IfKnown reader (λ bytes. Means bytes value) × IsReadToEnd reader

-- these bytes were taken, up to its end or `limit` of them
abbrev pub IsReadUpTo : ℕ → Reader → List ℕ → Type 0
IsReadUpTo limit reader taken = IsTaken reader taken × (length taken ≤ limit) × (length taken < limit → IsEnded reader)

-- some bytes were taken, or it reported its end, and it did not fail during the run
abbrev pub IsReadInPart : Reader → Type 0
IsReadInPart reader = (taken : List ℕ) × IsTaken reader taken × ((0 < length taken) ⊎ IsEnded reader)

-- it failed before its end, and before `limit` bytes were taken
abbrev pub FailsWithin : ℕ → Reader → Type 0
FailsWithin limit reader = (taken : List ℕ) × FailsAfter reader taken × (length taken < limit)

-- the whole text was sent, and is flushed, and the writer did not fail during the run
pub record WritesText (writer : Writer) (text : List ℕ) : Type 0 where
  pub written : writer.port.sent writer.new ≡ append_known (writer.port.sent writer.old) text
  pub flushed : writer.port.flushed writer.new ≡ known_len (writer.port.sent writer.new)
  pub sound : writer.port.has_failed writer.new ≡ writer.port.has_failed writer.old

-- The writer has failed. The bytes sent before the run are still sent, and all that it was sent is a prefix of them with the text after
-- them.
pub record WritesBeginning (writer : Writer) (text : List ℕ) : Type 0 where
  pub kept : Begins (writer.port.sent writer.old) (writer.port.sent writer.new)
  pub begun : Begins (writer.port.sent writer.new) (append_known (writer.port.sent writer.old) text)
  pub failure : writer.port.has_failed writer.new ≡ true
