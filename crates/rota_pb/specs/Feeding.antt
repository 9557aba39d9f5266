-- The result of feeding an answer with a reader's pieces.
use Rattle.std.specs.Prelude.{◌≡◌, ℕ, ◌≤◌, List, [], length, Ok, Err}
use Rattle.std.specs.Io.KnownBytes.{prepend_known}
use Rattle.byte_ports.specs.Ports.{KnownBytes}
use Rattle.rota_pb.specs.Imports.{Answer, Fault, Read}
use Rattle.solver_text.specs.declared.answer.Answer.{Answer as AnswerState}
use Rattle.solver_text.specs.declared.outcome.AnswerFault.{AnswerFault}
use Rattle.solver_text.specs.States.{LeadsTo}
use Rattle.solver_text.specs.Answers.{fault_within}
use Rattle.rota_pb.specs.AnswerPieces.{LacksEnd}
use Rattle.rota_pb.specs.RunPorts.{IsEnded, IsTaken, Reader}

-- Bytes were taken in this number of pieces, none of them empty. They lead from no text to the answer, and no fault was found in them.
pub record HasTaken (given left : KnownBytes) (old new : AnswerState) (pieces : ℕ) : Type 0 where
  pub taken : List ℕ
  pub front : given ≡ prepend_known taken left
  pub leads : (variables : ℕ) → LeadsTo variables [] old → LeadsTo variables taken new
  pub unjudged : (variables : ℕ) → LeadsTo variables [] old → fault_within variables taken ≡ Ok tt
  pub long : pieces ≤ length taken

-- all bytes were taken
pub record HasTakenAll (reader : Reader) (old new : AnswerState) : Type 0 where
  pub taken : List ℕ
  pub took : IsTaken reader taken
  pub at_end : IsEnded reader
  pub leads : (variables : ℕ) → LeadsTo variables [] old → LeadsTo variables taken new

-- a fault was found in the bytes that were taken, which follow no text
pub record FaultTaken (reader : Reader) (old : AnswerState) (fault : AnswerFault) : Type 0 where
  pub taken : List ℕ
  pub took : IsTaken reader taken
  pub judged : (variables : ℕ) → LeadsTo variables [] old → fault_within variables taken ≡ Err fault

-- no end came after the bytes that were taken, which follow no text, and no fault was found in them
pub record NoEndTaken (reader : Reader) (old : AnswerState) : Type 0 where
  pub taken : List ℕ
  pub unjudged : (variables : ℕ) → LeadsTo variables [] old → fault_within variables taken ≡ Ok tt
  pub no_end : LacksEnd reader taken

-- why not all bytes were taken
abbrev pub StopsTaking : Reader → AnswerState → Fault → Type 0
StopsTaking reader old (Answer fault) = FaultTaken reader old fault
StopsTaking reader old Read = NoEndTaken reader old
StopsTaking reader old _ = ⊥
