-- The abstract value of an answer that is being read: the state that a text leads to.
use Rattle.std.specs.Prelude.{Option, ◌≡◌, ℕ, ◌<◌, ◌^◌, List, [], ◌∷◌, Some, None, Result, Ok, Err, if◌then◌else◌}
use Rattle.std.specs.Option.{option_map_or}
use Rattle.solver_text.specs.declared.outcome.AnswerFault.{AnswerFault}
use Rattle.solver_text.specs.declared.answer_state.AnswerState.{AnswerState as StateInBits}
use Rattle.solver_text.specs.declared.answer.Answer.{Answer}
use Rattle.solver_text.specs.declared.line_state.Keyword.{Keyword}
use Rattle.solver_text.specs.declared.line_state.Line.TheVariants as at
use Rattle.solver_text.specs.Lines.{lines, cut, is_blank, ended_words}
use Rattle.solver_text.specs.Answers.{AnswerState, keyword_of, checked_within, and_then}
use Rattle.solver_text.specs.LineStates.{LineState, start, skipped, line_state_in_words}

-- the facts that are kept, with the truth values in bits
abbrev pub known_of : StateInBits → AnswerState
known_of kept = record {
  status = kept.status;
  last_o = kept.last_o;
  seen_true = kept.seen_true;
  seen_false = kept.seen_false;
}

abbrev pub line_of : Answer → LineState
line_of answer = answer.state

-- the fault that the answer keeps, if there was one
abbrev pub fault_of : Answer → Option AnswerFault
fault_of answer = answer.fault

-- the state after a letter
abbrev pub line_state_after_letter : Keyword → List ℕ → LineState
line_state_after_letter keyword [] = record { line = at.Alone keyword; word = [] }
line_state_after_letter keyword (b ∷ bytes) =
    if is_blank b then line_state_in_words keyword (ended_words (b ∷ bytes)) (cut is_blank (b ∷ bytes)).open_part else skipped

-- the kept state at the end of an open line
abbrev pub line_state_in : List ℕ → LineState
line_state_in [] = start
line_state_in (letter ∷ bytes) = option_map_or (λ keyword. line_state_after_letter keyword bytes) (keyword_of letter) skipped

-- the facts judged within a text and the kept state of its last line, or its fault
abbrev pub state_after : ℕ → List ℕ → Result (AnswerState × LineState) AnswerFault
state_after variables text = and_then (checked_within variables text) (λ known. Ok (known, line_state_in (lines text).open_part))

abbrev pub HasState : Answer → Result (AnswerState × LineState) AnswerFault → Type 0
HasState answer (Err fault) = answer.fault ≡ Some fault
HasState answer (Ok state) = (answer.fault ≡ None) × (known_of answer.known ≡ state.0) × (line_of answer ≡ state.1)

-- the text leads to the answer's state
pub record LeadsTo (variables : ℕ) (text : List ℕ) (answer : Answer) : Type 0 where
  pub few : variables < 2 ^ 32
  pub stands : HasState answer (state_after variables text)

abbrev pub Gives : Result (Unit {0}) AnswerFault → AnswerState → Result AnswerState AnswerFault → Type 0
Gives (Ok u) known checked = checked ≡ Ok known
Gives (Err fault) known checked = checked ≡ Err fault

-- the result of `take_bytes`, and the state that it left
abbrev pub Moves : Result (Unit {0}) AnswerFault → AnswerState × LineState → Result (AnswerState × LineState) AnswerFault → Type 0
Moves (Ok u) state moved = moved ≡ Ok state
Moves (Err fault) state moved = moved ≡ Err fault
