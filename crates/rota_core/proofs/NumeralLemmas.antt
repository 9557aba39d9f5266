-- A numeral consists only of digits, whose value is its number. It is a word.
use Rattle.std.proofs.Common.{◌≡◌, ℕ, zero, suc, ◌+◌, ◌/◌, ◌%◌, ◌^◌, ◌<◌, ◌≤◌, Bool, true, inl, inr, refl, arith, rules}
use Rattle.std.proofs.Common.{List, [], ◌∷◌, ◌++◌, length, length-append}
use Rattle.std.specs.Char.{is_ascii_digit}
use Rattle.std.specs.List.{list_all}
use Rattle.std.proofs.lemmas.Bool.{cases_lt, le-leb}
use Rattle.std.proofs.lemmas.Bool.Decides.{nat_tests}
use Rattle.std.proofs.lemmas.Fmt.{AppendsLastDigit}
use Rattle.std.proofs.lemmas.List.Sums.{fold-append}
use Rattle.rota_core.specs.Numeral.{numeral, numeral_within}
use Rattle.rota_core.specs.Decimal.{is_decimal, with_digit, decimal}
use Rattle.rota_core.specs.NumeralLaws.{AreDigits, ReadsBack}
use Rattle.rota_core.specs.Words.{is_word_byte, IsWord}

numeral_steps : AppendsLastDigit numeral_within
numeral_steps = search rules

-- ---- digits only

AreDigits-append : (xs ys : List ℕ) → AreDigits xs → AreDigits ys → AreDigits (xs ++ ys)
AreDigits-append [] ys p q = q
AreDigits-append (x ∷ xs) ys p q = (p.0, p.1, AreDigits-append xs ys p.2 q)

-- digits, at least one, whose value is the number
abbrev StandFor : ℕ → List ℕ → Type 0
StandFor n digits = AreDigits digits × (0 < length digits) × (decimal digits ≡ n)

one_more_digit : (n : ℕ) (front : List ℕ) → StandFor (n / 10) front → StandFor n (front ++ (48 + n % 10) ∷ [])
one_more_digit n front stand = (
  AreDigits-append front _ stand.0 (omega arith, omega arith, tt),
  rw length-append (omega arith),
  rw (fold-append with_digit 0 front ((48 + n % 10) ∷ [])) (omega (arith, stand.2)),
)

numeral-stands : (k n : ℕ) → n < k → StandFor n (numeral_within k n)
numeral-stands zero n below = absurd (omega arith)
numeral-stands (suc k) n below =
    elim (cases_lt n 10) [
      | inl small ↦ rw (numeral_steps.one k n small) ((omega arith, omega arith, tt), omega arith, omega arith)
      | inr large ↦
          rw (numeral_steps.more k n large) (one_more_digit n (numeral_within k (n / 10)) (numeral-stands k (n / 10) (omega arith)))
    ]

digits-numeral : (n : ℕ) → AreDigits (numeral n)
unfolding numeral
digits-numeral n = (numeral-stands (suc n) n (omega arith)).0

numeral-has_digits : (n : ℕ) → 0 < length (numeral n)
unfolding numeral
numeral-has_digits n = (numeral-stands (suc n) n (omega arith)).1

-- the digits of a numeral have its number as their value
decimal-numeral : (n : ℕ) → decimal (numeral n) ≡ n
unfolding numeral
decimal-numeral n = (numeral-stands (suc n) n (omega arith)).2

digits-all : (test : ℕ → Bool) → ((b : ℕ) → 48 ≤ b → b < 58 → test b ≡ true) → (digits : List ℕ) → AreDigits digits →
    list_all test digits ≡ true
digits-all test each [] these = refl
digits-all test each (b ∷ digits) these = rw (each b these.0 these.1) (digits-all test each digits these.2)

is_decimal-numeral : (n : ℕ) → is_decimal (numeral n) ≡ true
is_decimal-numeral n =
    digits-all is_ascii_digit (λ b low high. rw (le-leb 48 b low, le-leb b 57 (omega arith)) refl) (numeral n) (digits-numeral n)

-- ---- as a word

is_word_byte-digit : (b : ℕ) → 48 ≤ b → b < 58 → is_word_byte b ≡ true
is_word_byte-digit b low high = grind (arith, nat_tests)

IsWord-numeral : (n : ℕ) → IsWord (numeral n)
IsWord-numeral n = (numeral-has_digits n, digits-all is_word_byte is_word_byte-digit (numeral n) (digits-numeral n))

-- ---- lengths

length-numeral_within : (k m n : ℕ) → n < 10 ^ suc m → length (numeral_within k n) ≤ suc m
length-numeral_within zero m n below = omega arith
length-numeral_within (suc k) zero n below = rw (numeral_steps.one k n (omega arith)) (omega arith)
length-numeral_within (suc k) (suc m) n below =
    elim (cases_lt n 10) [
      | inl small ↦ rw (numeral_steps.one k n small) (omega arith)
      | inr large ↦
          let front : length (numeral_within k (n / 10)) ≤ suc m = length-numeral_within k m (n / 10) (omega arith) in
          rw (numeral_steps.more k n large, length-append (numeral_within k (n / 10)) ((48 + n % 10) ∷ [])) (omega (arith, front))
    ]

pub reads_back : (n : ℕ) → ReadsBack n
unfolding numeral
reads_back n = record {
  digits = digits-numeral n;
  decimal_only = is_decimal-numeral n;
  word = IsWord-numeral n;
  number = decimal-numeral n;
  short = λ m below. length-numeral_within (suc n) m n below;
}
