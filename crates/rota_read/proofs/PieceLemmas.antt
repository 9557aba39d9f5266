-- Pieces of a text that fill parts of a layout, for any bytes after them.
use Rattle.std.proofs.Common.{◌≡◌, ℕ, ◌≤◌, Bool, true, false, ◌||◌, refl, sym, ap, ◌∙◌, subst, arith, append_assoc}
use Rattle.std.proofs.Common.{List, [], ◌∷◌, ◌++◌, Some}
use Rattle.std.specs.Prelude.{nat_le, Result, Ok, bytes_eq}
use Rattle.rota_core.specs.declared.fault.Kind.{Kind}
use Rattle.std.specs.List.{list_all}
use Rattle.std.proofs.lemmas.Bool.{and_parts, or_parts, not-true}
use Rattle.std.proofs.lemmas.Bool.Decides.{nat_tests}
use Rattle.std.proofs.lemmas.List.{append-nil}
use Rattle.rota_core.specs.Words.{index_of, is_whitespace, is_sign, is_word_byte, IsWord}
use Rattle.rota_core.specs.Numeral.{numeral}
use Rattle.rota_layout.specs.Tokens.{Token, next_line}
use Rattle.rota_layout.specs.TokenLines.{tokens_from}
use Rattle.rota_layout.specs.Layout.{Layout, end, slot, ◌>>=◌, is_sign_token, exactly, number, any_word, known_name}
use Rattle.rota_layout.specs.Files.{Fills}
use Rattle.rota_core.specs.NumeralLaws.{ReadsBack}
use Rattle.rota_layout.proofs.ReadingLaws.{tokens_from-sign, one_blank, word_goes_on, word_ends}

-- The piece, in front of any bytes, is a number of tokens that fill the layout with the value.
abbrev pub FillsAsPiece : {V : Type 0} → Layout V → List ℕ → V → Type 0
FillsAsPiece layout piece value =
    (line : ℕ) → (front : List Token) × (next : ℕ) × Fills layout front value
    × ((rest : List ℕ) → tokens_from line (piece ++ rest) ≡ front ++ tokens_from next rest)

pub piece-bind : {A B : Type 0} (l : Layout A) (f : A → Layout B) (one other : List ℕ) (a : A) (b : B) →
    FillsAsPiece l one a → FillsAsPiece (f a) other b → FillsAsPiece (l >>= f) (one ++ other) b
unfolding Fills
piece-bind l f one other a b fills then_fills = λ line.
    let first = fills line in
    let second = then_fills first.1 in (
      first.0 ++ second.0,
      second.1,
      (a, first.0, second.0, refl, first.2, second.2),
      λ rest.
          ap (tokens_from line) (append_assoc one other rest)
          ∙ first.3 (other ++ rest)
          ∙ ap (λ tokens. first.0 ++ tokens) (second.3 rest)
          ∙ sym (append_assoc first.0 second.0 (tokens_from second.1 rest)),
    )

pub piece-end : {V : Type 0} (value : V) → FillsAsPiece (end value) [] value
unfolding Fills
piece-end value = λ line. ([], line, (refl, refl), λ rest. refl)

-- the value of a part, as another value
pub piece-map : {A B : Type 0} (l : Layout A) (f : A → B) (piece : List ℕ) (a : A) → FillsAsPiece l piece a →
    FillsAsPiece (l >>= (λ x. end (f x))) piece (f a)
piece-map l f piece a fills =
    subst (λ p. FillsAsPiece (l >>= (λ x. end (f x))) p (f a)) (append-nil piece)
    (piece-bind l (λ x. end (f x)) piece [] a (f a) fills (piece-end (f a)))

-- one more blank at the front changes nothing
pub piece-blank : {V : Type 0} (l : Layout V) (b : ℕ) (piece : List ℕ) (value : V) → is_whitespace b ≡ true →
    FillsAsPiece l piece value → FillsAsPiece l (b ∷ piece) value
piece-blank l b piece value blank fills = λ line.
    let part = fills (next_line b line) in
    (part.0, part.1, part.2, λ rest. one_blank b line (piece ++ rest) blank ∙ part.3 rest)

-- ---- one token

no_word_byte : (b : ℕ) → is_whitespace b ≡ true → is_word_byte b ≡ false
no_word_byte b blank = rw blank refl

tokens_from-word_and_blank : (word : List ℕ) (b line : ℕ) (rest : List ℕ) → IsWord word → is_whitespace b ≡ true →
    tokens_from line (word ++ b ∷ rest) ≡ record { word = word; line = line } ∷ tokens_from (next_line b line) rest
tokens_from-word_and_blank [] b line rest is_word blank = absurd (omega (arith, is_word.0))
tokens_from-word_and_blank (x ∷ xs) b line rest is_word blank =
    word_goes_on [] (x ∷ xs) line (b ∷ rest) is_word.1
    ∙ word_ends (x ∷ xs) b line rest (no_word_byte b blank)
    ∙ ap (λ tokens. record { word = x ∷ xs; line = line } ∷ tokens) (one_blank b line rest blank)

-- a word and a blank
pub piece-word : {V : Type 0} (read : Token → Result V Kind) (value : V) (word : List ℕ) (b : ℕ) → IsWord word → is_whitespace b ≡ true →
    ((line : ℕ) → read (record { word = word; line = line }) ≡ Ok value) → FillsAsPiece (slot read) (word ++ b ∷ []) value
unfolding Fills
piece-word read value word b is_word blank fits = λ line. (
  record { word = word; line = line } ∷ [],
  next_line b line,
  (record { word = word; line = line }, refl, fits line),
  λ rest. ap (tokens_from line) (append_assoc word (b ∷ []) rest) ∙ tokens_from-word_and_blank word b line rest is_word blank,
)

-- a sign
pub piece-sign : (b : ℕ) → is_whitespace b ≡ false → is_sign b ≡ true → bytes_eq (b ∷ []) (b ∷ []) ≡ true →
    FillsAsPiece (exactly (b ∷ [])) (b ∷ []) (b ∷ [])
unfolding Fills exactly
piece-sign b no_blank sign fits = λ line. (
  record { word = b ∷ []; line = line } ∷ [],
  line,
  (record { word = b ∷ []; line = line }, refl, rw fits refl),
  λ rest. tokens_from-sign b line rest no_blank sign,
)

-- ---- the slots of a solution

no_sign : (word : List ℕ) → IsWord word → is_sign_token word ≡ false
no_sign [] is_word = absurd (omega (arith, is_word.0))
no_sign (x ∷ xs) is_word =
    let first = and_parts (is_word_byte x) (list_all is_word_byte xs) is_word.1 in
    (or_parts (is_whitespace x) (is_sign x) (not-true (is_whitespace x || is_sign x) first.0)).1

pub piece-exactly : (word : List ℕ) (b : ℕ) → IsWord word → is_whitespace b ≡ true → bytes_eq word word ≡ true →
    FillsAsPiece (exactly word) (word ++ b ∷ []) word
unfolding exactly
piece-exactly word b is_word blank fits = piece-word _ word word b is_word blank (λ line. rw fits refl)

pub piece-any_word : (word : List ℕ) (b : ℕ) → IsWord word → is_whitespace b ≡ true → FillsAsPiece any_word (word ++ b ∷ []) word
unfolding any_word
piece-any_word word b is_word blank = piece-word _ word word b is_word blank (λ line. rw (no_sign word is_word) refl)

-- a numeral whose value is its number
module _ (reads_back : (n : ℕ) → ReadsBack n) where
  below : (a b : ℕ) → a ≤ b → nat_le a b ≡ true
  below a b h = grind (arith, nat_tests)

  pub piece-number : (low high n b : ℕ) → low ≤ n → n ≤ high → is_whitespace b ≡ true →
      FillsAsPiece (number low high) (numeral n ++ b ∷ []) n
  unfolding number
  piece-number low high n b from up_to blank =
      piece-word _ n (numeral n) b (reads_back n).word blank
      (λ line. rw ((reads_back n).decimal_only, (reads_back n).number, below low n from, below n high up_to) refl)

pub piece-known_name : (names : List (List ℕ)) (is_taken : ℕ → Bool) (name : List ℕ) (index b : ℕ) → IsWord name →
    is_whitespace b ≡ true → index_of names name ≡ Some index → is_taken index ≡ false →
    FillsAsPiece (known_name names is_taken) (name ++ b ∷ []) index
unfolding known_name
piece-known_name names is_taken name index b is_word blank found free =
    piece-word _ index name b is_word blank (λ line. rw (no_sign name is_word, found, free) refl)
