-- The maximum numbers of a machine.
use Rattle.std.specs.Prelude.{ℕ, ◌-◌, ◌^◌}

-- the number of values of a word of 32 bits; it limits the numbers of variables, slacks and rows
abbrev pub word_limit : ℕ
word_limit = 2 ^ 32

abbrev pub max_count : ℕ
max_count = word_limit - 1

-- the limit of a signed sum of 64 bits
abbrev pub signed_limit : ℕ
signed_limit = 2 ^ 63

-- the maximum unsigned sum
abbrev pub max_sum : ℕ
max_sum = 2 ^ 64 - 1
