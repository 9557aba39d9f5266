-- The kept state of the bytes of a line so far, and how the next byte changes it.
use Rattle.std.specs.Prelude.{ℕ, ◌==◌, ◌-◌, ◌^◌, min, nat_lt, ℤ, Bool, true, false, if◌then◌else◌}
use Rattle.std.specs.Prelude.{List, [], ◌∷◌, ◌++◌, fold, take, length, codes, bytes_eq, Option, Some, None, Result, Ok, Err}
use Rattle.std.specs.Option.{option_map_or}
use Rattle.std.specs.Char.{is_ascii_digit}
use Rattle.solver_text.specs.declared.outcome.Status.{Status}
use Rattle.solver_text.specs.declared.outcome.Status.TheVariants as statuses
use Rattle.solver_text.specs.declared.outcome.AnswerFault.{AnswerFault}
use Rattle.solver_text.specs.declared.outcome.AnswerFault.TheVariants as faults
use Rattle.solver_text.specs.declared.line_state.Keyword.{Keyword}
use Rattle.solver_text.specs.declared.line_state.Keyword.TheVariants as keywords
use Rattle.solver_text.specs.declared.words.StatusWords.{StatusWords}
use Rattle.solver_text.specs.declared.words.StatusWords.TheVariants as status_words
use Rattle.solver_text.specs.declared.words.ObjectiveWords.{ObjectiveWords}
use Rattle.solver_text.specs.declared.words.ObjectiveWords.TheVariants as objective_words
use Rattle.solver_text.specs.declared.literal.LiteralFront.{LiteralFront}
use Rattle.solver_text.specs.declared.literal.LiteralFront.TheVariants as fronts
use Rattle.solver_text.specs.declared.line_state.Line.{Line}
use Rattle.solver_text.specs.declared.line_state.Line.TheVariants as at
use Rattle.solver_text.specs.Lines.{is_blank, is_line_feed}
use Rattle.rota_core.specs.Decimal.{with_digit}
use Rattle.solver_text.specs.Answers.{AnswerState, keyword_of, one_word_status, number_of, and_then, check_status, check_objective}
use Rattle.solver_text.specs.Answers.{check_literal}

-- the number of bytes of a word that are kept
abbrev pub MAX_WORD_LEN : ℕ
MAX_WORD_LEN = 20

-- the meaning so far of the words of an s line
abbrev pub with_status_word : StatusWords → List ℕ → StatusWords
with_status_word status_words.Nothing word =
    if bytes_eq word (codes "OPTIMUM") then status_words.Optimum
    else option_map_or (λ s. status_words.Is s) (one_word_status word) status_words.Other
with_status_word status_words.Optimum word =
    if bytes_eq word (codes "FOUND") then status_words.Is statuses.Optimum else status_words.Other
with_status_word (status_words.Is s) word = status_words.Other
with_status_word status_words.Other word = status_words.Other

abbrev pub named_status : StatusWords → Option Status
named_status (status_words.Is s) = Some s
named_status status_words.Nothing = None
named_status status_words.Optimum = None
named_status status_words.Other = None

-- the meaning so far of the words of an o line
abbrev pub with_objective_word : ObjectiveWords → List ℕ → ObjectiveWords
with_objective_word objective_words.Nothing word =
    option_map_or (λ n. objective_words.Is n) (number_of word) objective_words.Other
with_objective_word (objective_words.Is n) word = objective_words.Other
with_objective_word objective_words.Other word = objective_words.Other

abbrev pub named_objective : ObjectiveWords → Option ℤ
named_objective (objective_words.Is n) = Some n
named_objective objective_words.Nothing = None
named_objective objective_words.Other = None

-- the maximum number that is kept
abbrev pub MAX_VARIABLE : ℕ
MAX_VARIABLE = 2 ^ 64 - 1

abbrev pub with_number : Bool → ℕ → ℕ → LiteralFront
with_number positive n b =
    if is_ascii_digit b then fronts.Number positive (min (with_digit n b) MAX_VARIABLE) else fronts.Bad

-- the meaning so far of the bytes of a word of a v line
abbrev pub with_literal_byte : LiteralFront → ℕ → LiteralFront
with_literal_byte fronts.Empty b =
    if b == 45 then fronts.Minus else (if b == 120 then fronts.Letter true else fronts.Bad)
with_literal_byte fronts.Minus b = if b == 120 then fronts.Letter false else fronts.Bad
with_literal_byte (fronts.Letter positive) b = with_number positive 0 b
with_literal_byte (fronts.Number positive n) b = with_number positive n b
with_literal_byte fronts.Bad b = fronts.Bad

abbrev pub literal_front : List ℕ → LiteralFront
literal_front word = fold with_literal_byte fronts.Empty word

-- the kept state of a line: its meaning so far, and the front of its open word if it is an s or o line
pub record LineState : Type 0 where
  pub line : Line
  pub word : List ℕ

abbrev pub start : LineState
start = record { line = at.Start; word = [] }

abbrev pub skipped : LineState
skipped = record { line = at.Skipped; word = [] }

-- the state in a word of a v line
abbrev pub in_word : LiteralFront → List ℕ → LineState
in_word front word = record { line = at.Values front; word = word }

-- the line after a letter that has no byte after it yet
abbrev pub line_after_letter : Keyword → Line
line_after_letter keywords.Status = at.Status status_words.Nothing
line_after_letter keywords.Objective = at.Objective objective_words.Nothing
line_after_letter keywords.Values = at.Values fronts.Empty

-- one more word, if there is one
abbrev pub ended_status : StatusWords → List ℕ → StatusWords
ended_status words [] = words
ended_status words (b ∷ bytes) = with_status_word words (b ∷ bytes)

abbrev pub ended_objective : ObjectiveWords → List ℕ → ObjectiveWords
ended_objective words [] = words
ended_objective words (b ∷ bytes) = with_objective_word words (b ∷ bytes)

abbrev pub kept_byte : List ℕ → ℕ → List ℕ
kept_byte word b = if nat_lt (length word) MAX_WORD_LEN then word ++ b ∷ [] else word

-- the line after one more byte, by which a word ends that the line may hold
abbrev pub line_after : Line → ℕ → Line
line_after at.Start b = option_map_or (λ keyword. at.Alone keyword) (keyword_of b) at.Skipped
line_after (at.Alone keyword) b = if is_blank b then line_after_letter keyword else at.Skipped
line_after (at.Status words) b = at.Status words
line_after (at.Objective words) b = at.Objective words
line_after (at.Values front) b = if is_blank b then at.Values fronts.Empty else at.Values (with_literal_byte front b)
line_after at.Skipped b = at.Skipped

abbrev pub with_line_byte : Line → List ℕ → ℕ → LineState
with_line_byte (at.Status words) word b =
    if is_blank b then record { line = at.Status (ended_status words word); word = [] }
    else record { line = at.Status words; word = kept_byte word b }
with_line_byte (at.Objective words) word b =
    if is_blank b then record { line = at.Objective (ended_objective words word); word = [] }
    else record { line = at.Objective words; word = kept_byte word b }
with_line_byte at.Start word b = record { line = line_after at.Start b; word = word }
with_line_byte (at.Alone keyword) word b = record { line = line_after (at.Alone keyword) b; word = word }
with_line_byte (at.Values front) word b = record { line = line_after (at.Values front) b; word = word }
with_line_byte at.Skipped word b = record { line = at.Skipped; word = word }

-- the kept state after one more byte
abbrev pub line_state_after : LineState → ℕ → LineState
line_state_after kept b = if is_line_feed b then start else with_line_byte kept.line kept.word b

-- a word of a v line is judged at its end
abbrev pub check_front : AnswerState → LiteralFront → Result AnswerState AnswerFault
check_front known fronts.Empty = Ok known
check_front known fronts.Minus = Err faults.Literal
check_front known (fronts.Letter positive) = Err faults.Literal
check_front known (fronts.Number positive n) = check_literal known (Some (record { positive = positive; variable = n }))
check_front known fronts.Bad = Err faults.Literal

abbrev pub end_word : AnswerState → Line → Result AnswerState AnswerFault
end_word known at.Start = Ok known
end_word known (at.Alone keyword) = Ok known
end_word known (at.Status words) = Ok known
end_word known (at.Objective words) = Ok known
end_word known (at.Values front) = check_front known front
end_word known at.Skipped = Ok known

abbrev pub end_line : AnswerState → Line → List ℕ → Result AnswerState AnswerFault
end_line known at.Start word = Ok known
end_line known (at.Alone keywords.Status) word = check_status known None
end_line known (at.Alone keywords.Objective) word = check_objective known None
end_line known (at.Alone keywords.Values) word = Ok known
end_line known (at.Status words) word = check_status known (named_status (ended_status words word))
end_line known (at.Objective words) word = check_objective known (named_objective (ended_objective words word))
end_line known (at.Values front) word = check_front known front
end_line known at.Skipped word = Ok known

-- the judgement when a byte comes
abbrev pub check_byte : AnswerState → LineState → ℕ → Result AnswerState AnswerFault
check_byte known kept b =
    if is_line_feed b then end_line known kept.line kept.word
    else (if is_blank b then end_word known kept.line else Ok known)

abbrev pub take_byte : AnswerState → LineState → ℕ → Result (AnswerState × LineState) AnswerFault
take_byte known kept b = and_then (check_byte known kept b) (λ after. Ok (after, line_state_after kept b))

unfoldable pub take_bytes : AnswerState → LineState → List ℕ → Result (AnswerState × LineState) AnswerFault
take_bytes known kept [] = Ok (known, kept)
take_bytes known kept (b ∷ bytes) = and_then (take_byte known kept b) (λ next. take_bytes next.0 next.1 bytes)

-- the kept state at the end of a line's bytes
abbrev pub line_state_in_words : Keyword → List (List ℕ) → List ℕ → LineState
line_state_in_words keywords.Status ended word =
    record { line = at.Status (fold with_status_word status_words.Nothing ended); word = take MAX_WORD_LEN word }
line_state_in_words keywords.Objective ended word =
    record { line = at.Objective (fold with_objective_word objective_words.Nothing ended); word = take MAX_WORD_LEN word }
line_state_in_words keywords.Values ended word = record { line = at.Values (literal_front word); word = [] }
