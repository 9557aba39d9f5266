-- Numerals are the digits that the standard library writes.
use Rattle.std.proofs.Common.{◌≡◌, ℕ, zero, suc, ◌∷◌, ◌^◌, ◌<◌, ℤ, pos, negsuc, sym, ap, arith, rules}
use Rattle.std.specs.Fmt.{decimal, signed_decimal}
use lib.Signed.{mag}
use Rattle.std.proofs.lemmas.Fmt.{AppendsLastDigit, decimal_from_appends_wide, length-decimal-le_wide}
use Rattle.rota_core.specs.Numeral.{numeral, numeral_within, signed_numeral}

numeral_steps : AppendsLastDigit numeral_within
numeral_steps = search rules

below_power : (n : ℕ) → n < 10 ^ suc n
below_power zero = omega arith
below_power (suc n) = omega (arith, below_power n)

pub numeral_is : (n : ℕ) → n < 10 ^ 64 → decimal n ≡ numeral n
unfolding numeral
numeral_is n small =
    sym (decimal_from_appends_wide numeral_within numeral_steps (suc n) n small
    (length-decimal-le_wide (suc n) n (omega arith) (below_power n) small))

pub signed_numeral_is : (z : ℤ) → mag z < 2 ^ 127 → signed_decimal z ≡ signed_numeral z
signed_numeral_is (pos n) small = numeral_is n (omega arith)
signed_numeral_is (negsuc n) small = ap (λ digits. 45 ∷ digits) (numeral_is (suc n) (omega arith))
