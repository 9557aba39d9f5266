-- The bytes of a word of a v line, one after another.
use Rattle.std.proofs.Common.{◌≡◌, ℕ, Bool, true, false, List, ◌∷◌, Result, Ok, Err, refl, ap, sym, ◌∙◌, arith, cond, true≢false}
use Rattle.std.specs.Char.{is_ascii_digit}
use Rattle.solver_text.specs.Lines.{is_blank, is_line_feed}
use Rattle.solver_text.specs.Answers.{AnswerState, and_then}
use Rattle.rota_core.specs.Decimal.{with_digit}
use Rattle.std.specs.Prelude.{min}
use Rattle.solver_text.specs.declared.literal.LiteralFront.TheVariants.{Empty, Number, Bad}
use Rattle.solver_text.specs.declared.line_state.Line.TheVariants.{Values}
use Rattle.solver_text.specs.LineStates.{LineState, MAX_VARIABLE, in_word, check_front, take_byte, take_bytes, with_literal_byte}
use Rattle.solver_text.specs.declared.outcome.AnswerFault.{AnswerFault}
use Rattle.solver_text.specs.declared.literal.LiteralFront.{LiteralFront}

word_byte_at : (known : AnswerState) (front : LiteralFront) (word : List ℕ) (b : ℕ) → is_line_feed b ≡ false → is_blank b ≡ false →
    take_byte known (in_word front word) b ≡ Ok (known, in_word (with_literal_byte front b) word)
word_byte_at known front word b no_feed no_blank = rw (no_feed, no_blank) refl

-- a byte of a word is taken into its front
pub take_bytes-word_byte : (known : AnswerState) (front : LiteralFront) (word : List ℕ) (b : ℕ) (bytes : List ℕ) →
    is_line_feed b ≡ false → is_blank b ≡ false →
    take_bytes known (in_word front word) (b ∷ bytes) ≡ take_bytes known (in_word (with_literal_byte front b) word) bytes
unfolding take_bytes
take_bytes-word_byte known front word b bytes no_feed no_blank =
    ap (λ (next : Result (AnswerState × LineState) AnswerFault). and_then next (λ s. take_bytes s.0 s.1 bytes))
    (word_byte_at known front word b no_feed no_blank)

-- a digit is taken into the number before it
pub take_bytes-digit : (known : AnswerState) (positive : Bool) (n : ℕ) (word : List ℕ) (b : ℕ) (bytes : List ℕ) →
    is_ascii_digit b ≡ true →
    take_bytes known (in_word (Number positive n) word) (b ∷ bytes)
    ≡ take_bytes known (in_word (Number positive (min (with_digit n b) MAX_VARIABLE)) word) bytes
take_bytes-digit known positive n word b bytes digit =
    take_bytes-word_byte known (Number positive n) word b bytes (no_feed b digit) (no_blank b digit)
    ∙ ap (λ (front : LiteralFront). take_bytes known (in_word front word) bytes) (with_it (is_ascii_digit b) digit)
  where
    no_feed : (b : ℕ) → is_ascii_digit b ≡ true → is_line_feed b ≡ false
    no_feed b digit = grind arith

    no_blank : (b : ℕ) → is_ascii_digit b ≡ true → is_blank b ≡ false
    no_blank b digit = grind arith

    with_it : (is : Bool) → is ≡ true →
        (cond is (Number positive (min (with_digit n b) MAX_VARIABLE)) Bad) ≡ Number positive (min (with_digit n b) MAX_VARIABLE)
    with_it true e = refl
    with_it false e = absurd (true≢false (sym e))

-- the same, if the kept state is given by its parts
pub take_bytes-in_word : (known : AnswerState) (kept : LineState) (front after : LiteralFront) (bytes rest : List ℕ) →
    kept.line ≡ Values front →
    ((known : AnswerState) (word : List ℕ) → take_bytes known (in_word front word) bytes ≡ take_bytes known (in_word after word) rest) →
    take_bytes known kept bytes ≡ take_bytes known (in_word after kept.word) rest
take_bytes-in_word known kept front after bytes rest e reads = rw e (reads known kept.word)

no_feed-blank : (b : ℕ) → is_blank b ≡ true → is_line_feed b ≡ false
no_feed-blank b blank = grind arith

checked_at_blank : (known : AnswerState) (front : LiteralFront) (word : List ℕ) (b : ℕ) (checked : Result AnswerState AnswerFault) →
    is_blank b ≡ true → check_front known front ≡ checked →
    take_byte known (in_word front word) b ≡ and_then checked (λ after. Ok (after, in_word Empty word))
checked_at_blank known front word b checked blank e = rw (no_feed-blank b blank, blank, e) refl

-- a blank after a word: the word is judged, and another one may begin
pub take_bytes-blank : (known : AnswerState) (front : LiteralFront) (word : List ℕ) (b : ℕ) (bytes : List ℕ) (checked : Result AnswerState AnswerFault) →
    is_blank b ≡ true → check_front known front ≡ checked →
    take_bytes known (in_word front word) (b ∷ bytes) ≡ and_then checked (λ after. take_bytes after (in_word Empty word) bytes)
unfolding take_bytes
take_bytes-blank known front word b bytes (Ok after) blank e =
    ap (λ (next : Result (AnswerState × LineState) AnswerFault). and_then next (λ s. take_bytes s.0 s.1 bytes))
    (checked_at_blank known front word b (Ok after) blank e)
take_bytes-blank known front word b bytes (Err fault) blank e =
    ap (λ (next : Result (AnswerState × LineState) AnswerFault). and_then next (λ s. take_bytes s.0 s.1 bytes))
    (checked_at_blank known front word b (Err fault) blank e)
