-- The properties of a number's numeral.
use Rattle.std.specs.Prelude.{◌≡◌, ℕ, suc, ◌^◌, ◌<◌, ◌≤◌, true, List, [], ◌∷◌, length}
use Rattle.rota_core.specs.Numeral.{numeral}
use Rattle.rota_core.specs.Decimal.{is_decimal, decimal}
use Rattle.rota_core.specs.Words.{IsWord}

-- the bytes are digits
abbrev pub AreDigits : List ℕ → Type 0
AreDigits [] = Unit {0}
AreDigits (b ∷ bs) = (48 ≤ b) × (b < 58) × AreDigits bs

-- a numeral is a word of digits whose value is its number, and is no longer than it has to be
pub record ReadsBack (n : ℕ) : Type 0 where
  pub digits : AreDigits (numeral n)
  pub decimal_only : is_decimal (numeral n) ≡ true
  pub word : IsWord (numeral n)
  pub number : decimal (numeral n) ≡ n
  pub short : (m : ℕ) → n < 10 ^ suc m → length (numeral n) ≤ suc m
