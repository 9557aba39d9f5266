-- The abstract value of the taker that writes literals.
use Rattle.std.specs.Prelude.{◌≡◌, ℕ, ◌+◌, ◌-◌, ◌^◌, min, Bool}
use Rattle.byte_ports.specs.declared.ports.Target.{Ghosts}
use Rattle.opb_text.specs.SinkTaker.{EventTexts, FailedAt, SinkState}
use Rattle.solver_text.specs.AnswerWriter.{literal_text, literals_of, writer_sink}
use Rattle.solver_text.specs.declared.answer_writer.AnswerWriter.{AnswerWriter}
use Rattle.rota_pb.specs.declared.extension_answer.ExtensionAnswer.{ExtensionAnswer}

-- the writer by its name, and the number of literals that it wrote
pub record WriterState : Type 0 where
  pub writer : ℕ
  pub literals : ℕ

-- one more literal: the number stays at its maximum
abbrev pub after_literal : WriterState → Bool → WriterState
after_literal state truth = record state { literals = min (state.literals + 1) (2 ^ 32 - 1) }

-- the texts of literals, and the number of literals after each
abbrev pub literal_texts : EventTexts Bool WriterState
literal_texts = record { text = λ state truth. literal_text state.literals truth; after = after_literal }

module _ {W : Type 0} {target : Ghosts W} where
  -- the writer that the text goes to
  abbrev pub answer_writer : ExtensionAnswer W target → AnswerWriter W target
  answer_writer answer = answer.writer.now

  abbrev pub writer_state_of : ExtensionAnswer W target → WriterState
  writer_state_of answer = record { writer = answer.writer.ghost_name; literals = literals_of (answer_writer answer) }

  -- the same writer failed at the literal
  pub record FailsAt (before : SinkState W WriterState) (truth : Bool) (answer : ExtensionAnswer W target) : Type 0 where
    pub same_writer : answer.writer.ghost_name ≡ before.kept.writer
    pub failed : FailedAt literal_texts before truth (writer_sink (answer_writer answer))
