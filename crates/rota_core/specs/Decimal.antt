-- The value of decimal digits.
use Rattle.std.specs.Prelude.{ℕ, ◌+◌, ◌-◌, ◌*◌, Bool, List}
use Rattle.std.specs.Char.{is_ascii_digit}
use Rattle.std.specs.List.{list_all, fold}

-- whether all bytes of the word are digits
abbrev pub is_decimal : List ℕ → Bool
is_decimal word = list_all is_ascii_digit word

-- n with one more digit at its end, whose byte is b
abbrev pub with_digit : ℕ → ℕ → ℕ
with_digit n b = 10 * n + (b - 48)

-- the number that decimal digits spell
abbrev pub decimal : List ℕ → ℕ
decimal word = fold with_digit 0 word
