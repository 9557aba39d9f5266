-- Sums and tests over the numbers below a number.
use Rattle.std.specs.Prelude.{ℕ, zero, suc, ◌+◌, Bool, false, ◌||◌, if◌then◌else◌}

-- f 0 + f 1 + .. + f (n - 1), or 0 if n is 0
unfoldable pub sum_below : ℕ → (ℕ → ℕ) → ℕ
sum_below zero f = 0
sum_below (suc n) f = sum_below n f + f n

-- how many of the numbers 0 to n - 1 pass the test
abbrev pub count_below : ℕ → (ℕ → Bool) → ℕ
count_below n test = sum_below n (λ i. if test i then 1 else 0)

-- whether any of the numbers 0 to n - 1 passes the test
unfoldable pub any_below : ℕ → (ℕ → Bool) → Bool
any_below zero test = false
any_below (suc n) test = any_below n test || test n
