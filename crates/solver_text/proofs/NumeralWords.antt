-- Numerals as words: digits without blanks, which spell their number.
use Rattle.std.proofs.Common.{◌≡◌, ℕ, ◌^◌, ◌<◌, ◌≤◌, Bool, true, false, List, [], ◌∷◌, Option}
use Rattle.std.proofs.Common.{Some, None, length, refl, ap, ◌∙◌, arith, pos}
use Rattle.std.specs.Prelude.{All}
use Rattle.std.specs.Option.{option_map_or}
use Rattle.std.proofs.lemmas.Bool.{lt-ltb, le-leb, ne_eqb}
use Rattle.std.proofs.lemmas.List.Elements.{All-nil, All-cons}
use Rattle.rota_core.specs.Numeral.{numeral}
use Rattle.rota_core.specs.Decimal.{decimal, is_decimal}
use Rattle.rota_core.specs.NumeralLaws.{AreDigits, ReadsBack}
use Rattle.solver_text.specs.Lines.{is_blank, is_line_feed, has_bytes}
use Rattle.solver_text.specs.Answers.{Literal, magnitude_of, positive_of, number_of, variable_of, literal_of}
use Rattle.solver_text.specs.AnswerText.{literal_word}

-- neither blank nor line feed
abbrev pub IsWordByte : ℕ → Type 0
IsWordByte b = (is_blank b ≡ false) × (is_line_feed b ≡ false)

pub word_byte : (b : ℕ) → 33 ≤ b → IsWordByte b
word_byte b high =
    (rw (ne_eqb b 32 (λ e. omega arith), ne_eqb b 9 (λ e. omega arith), ne_eqb b 13 (λ e. omega arith)) refl, ne_eqb b 10 (λ e. omega arith))

-- bytes that form a word of a line
pub record IsWord (word : List ℕ) : Type 0 where
  pub some : has_bytes word ≡ true
  pub bytes : All IsWordByte word

digits-word_bytes : (digits : List ℕ) → AreDigits digits → All IsWordByte digits
digits-word_bytes [] these = All-nil IsWordByte
digits-word_bytes (b ∷ digits) these =
    All-cons IsWordByte b digits (word_byte b (omega (arith, these.0))) (digits-word_bytes digits these.2)

has_some_bytes : (word : List ℕ) → 0 < length word → has_bytes word ≡ true
has_some_bytes [] some = absurd (omega arith)
has_some_bytes (b ∷ word) some = refl

-- digits that name the variable
variable-digits : (positive : Bool) (digits : List ℕ) → 0 < length digits → is_decimal digits ≡ true →
    variable_of positive digits ≡ Some (record { positive = positive; variable = decimal digits })
variable-digits positive [] some e = absurd (omega arith)
variable-digits positive (b ∷ digits) some e = rw e refl

abbrev literal_of_variable : Bool → ℕ → Option Literal
literal_of_variable positive n = Some (record { positive = positive; variable = n })

magnitude-digits : (digits : List ℕ) → 0 < length digits → length digits ≤ 18 → is_decimal digits ≡ true →
    magnitude_of digits ≡ Some (decimal digits)
magnitude-digits digits some short e = rw (e, lt-ltb 0 (length digits) some, le-leb (length digits) 18 short) refl

-- digits without a sign spell a number that is not negative
unsigned-digits : (digits : List ℕ) → AreDigits digits → 0 < length digits → number_of digits ≡ positive_of digits
unsigned-digits [] these some = absurd (omega arith)
unsigned-digits (b ∷ digits) these some =
    rw (ne_eqb b 45 (λ e. omega (arith, these.0)), ne_eqb b 43 (λ e. omega (arith, these.0))) refl

-- for numerals whose value is their number
module _ (reads_back : (n : ℕ) → ReadsBack n) where
  numeral-word_bytes : (n : ℕ) → All IsWordByte (numeral n)
  numeral-word_bytes n = digits-word_bytes (numeral n) (reads_back n).digits

  pub numeral-is_word : (n : ℕ) → IsWord (numeral n)
  numeral-is_word n = record { some = has_some_bytes (numeral n) (reads_back n).word.0; bytes = numeral-word_bytes n }

  pub literal-is_word : (variable : ℕ) (truth : Bool) → IsWord (literal_word variable truth)
  literal-is_word variable true =
      record { some = refl; bytes = All-cons IsWordByte 120 (numeral variable) (word_byte 120 (omega arith)) (numeral-word_bytes variable) }
  literal-is_word variable false =
      record {
        some = refl;
        bytes =
            All-cons IsWordByte 45 (120 ∷ numeral variable) (word_byte 45 (omega arith))
            (All-cons IsWordByte 120 (numeral variable) (word_byte 120 (omega arith)) (numeral-word_bytes variable));
      }

  variable-numeral : (positive : Bool) (n : ℕ) → variable_of positive (numeral n) ≡ literal_of_variable positive n
  variable-numeral positive n =
      variable-digits positive (numeral n) (reads_back n).word.0 (reads_back n).decimal_only
      ∙ ap (λ (m : ℕ). literal_of_variable positive m) (reads_back n).number

  -- a literal's word names the literal
  pub literal_of-literal_word : (variable : ℕ) (truth : Bool) →
      literal_of (literal_word variable truth) ≡ Some (record { positive = truth; variable = variable })
  literal_of-literal_word variable true = variable-numeral true variable
  literal_of-literal_word variable false = variable-numeral false variable

  -- a numeral of at most 18 digits spells its number
  pub number_of-numeral : (n : ℕ) → n < 10 ^ 18 → number_of (numeral n) ≡ Some (pos n)
  number_of-numeral n small =
      unsigned-digits (numeral n) (reads_back n).digits (reads_back n).word.0
      ∙ ap (λ (m : Option ℕ). option_map_or (λ d. Some (pos d)) m None)
      (magnitude-digits (numeral n) (reads_back n).word.0 ((reads_back n).short 17 small) (reads_back n).decimal_only ∙ ap Some (reads_back n).number)
