-- The abstract value of a writer of an answer, and the text that each of its calls writes.
use Rattle.std.specs.Prelude.{◌≡◌, ℕ, ◌+◌, ◌%◌, ◌==◌, Bool, List, [], ◌∷◌, ◌++◌, length, codes, if◌then◌else◌}
use Rattle.byte_ports.specs.declared.ports.Target.{Ghosts}
use Rattle.text_sink.specs.declared.sink.Sink.{Sink}
use Rattle.solver_text.specs.AnswerText.{after_blank, literal_word, answer_head, answer_text}
use Rattle.solver_text.specs.declared.answer_writer.Phase.{Phase}
use Rattle.solver_text.specs.declared.answer_writer.AnswerWriter.{AnswerWriter}

module _ {W : Type 0} {target : Ghosts W} where
  -- the sink that the text goes to
  abbrev pub writer_sink : AnswerWriter W target → Sink W target
  writer_sink writer = writer.sink

  -- whether the first lines of the answer were written, and its end
  abbrev pub phase_of : AnswerWriter W target → Phase
  phase_of writer = writer.phase

  -- the number of literals that were written
  abbrev pub literals_of : AnswerWriter W target → ℕ
  literals_of writer = writer.literals

-- whether a row is full after n literals
abbrev pub is_full_row : ℕ → Bool
is_full_row n = n % 10 == 0

-- the text before the literal, after n literals
abbrev pub row_start : ℕ → List ℕ
row_start n = if is_full_row n then codes "v" else []

-- the text after n literals, if the row is full
abbrev pub row_end : ℕ → List ℕ
row_end n = if is_full_row n then codes "\n" else []

-- the text that the value of the next variable writes after n literals
abbrev pub literal_text : ℕ → Bool → List ℕ
literal_text n truth = row_start n ++ after_blank (literal_word (n + 1) truth) ++ row_end (n + 1)

-- the text that the values of the next variables write after n literals
abbrev pub literals_text : ℕ → List Bool → List ℕ
literals_text n [] = []
literals_text n (truth ∷ truths) = literal_text n truth ++ literals_text (n + 1) truths

-- the text that the end of the answer writes after n literals: the end of a row that is not full
abbrev pub end_text : ℕ → List ℕ
end_text n = if is_full_row n then [] else codes "\n"

-- the first lines, the texts of the literals and the end are the answer's text
abbrev pub WritesAnswerText : Type 0
WritesAnswerText =
    (objective : ℕ) (truths : List Bool) →
    answer_head objective ++ literals_text 0 truths ++ end_text (length truths) ≡ answer_text objective truths
