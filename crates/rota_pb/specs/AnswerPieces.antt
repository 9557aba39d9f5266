-- A solver's answer that is read in pieces, up to its end.
use Rattle.std.specs.Prelude.{◌≡◌, ℕ, ◌-◌, ◌≤◌, ◌^◌, List, length, Ok, Err}
use Rattle.rota_pb.specs.Imports.{Answer, Fault, Memory, Read}
use Rattle.solver_text.specs.declared.outcome.AnswerFault.{AnswerFault}
use Rattle.solver_text.specs.declared.outcome.Solved.{Solved}
use Rattle.solver_text.specs.Answers.{outcome, fault_within}
use Rattle.rota_pb.specs.RunPorts.{FailsAfter, IfKnown, IsRead, IsTaken, IsUntouched, Reader}
use Rattle.rota_pb.specs.Steps.{Step, call}

-- an answer is read in at most 2^64 - 1 pieces, each with at least one byte
abbrev pub MAX_PIECES : ℕ
MAX_PIECES = 2 ^ 64 - 1

-- the reader was read to its end, and its bytes have this meaning for the variables 1 to `variables`, with a bit for each
abbrev pub IsSolved : ℕ → Reader → Solved → Type 0
IsSolved variables reader solved =
    IsRead (λ bytes found. outcome variables bytes ≡ Ok found) reader solved × (length solved.bits ≡ variables)

-- why no end came after the bytes that were taken: the reader failed before it reported one, or there would have been too many pieces
pub data LacksEnd (reader : Reader) (taken : List ℕ) : Type 0 where
  by_failure : FailsAfter reader taken → LacksEnd reader taken
  by_length : MAX_PIECES ≤ length taken → IsTaken reader taken →
      reader.port.has_ended reader.new ≡ reader.port.has_ended reader.old → LacksEnd reader taken

-- no end came after the bytes that were taken, and no fault was found in them
abbrev pub StopsUnjudged : ℕ → Reader → Type 0
StopsUnjudged variables reader = (taken : List ℕ) × (fault_within variables taken ≡ Ok tt) × LacksEnd reader taken

-- its bytes have the fault, and the reader did not fail
pub record IsFaulty (variables : ℕ) (reader : Reader) (fault : AnswerFault) : Type 0 where
  pub means : IfKnown reader (λ bytes. outcome variables bytes ≡ Err fault)
  pub sound : reader.port.has_failed reader.new ≡ reader.port.has_failed reader.old

-- Why an answer is refused: its bytes have the fault, and its reader did not fail; or no end came before a fault was found; or memory for
-- the bits ran out before the first read.
abbrev pub FailsAnswer : ℕ → Reader → Fault → Type 0
FailsAnswer variables reader (Answer fault) = IsFaulty variables reader fault
FailsAnswer variables reader Read = StopsUnjudged variables reader
FailsAnswer variables reader Memory = IsUntouched reader
FailsAnswer variables reader _ = ⊥

-- an answer is read: its meaning is found, or it is refused
abbrev pub read_answer : ℕ → Reader → Step Solved
read_answer variables reader = call reader (IsSolved variables reader) (FailsAnswer variables reader)
