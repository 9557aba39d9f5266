-- The minimum of some numbers.
use Rattle.std.specs.Prelude.{ℕ, zero, suc, min}

-- the minimum of `start` and f 0, f 1, .. f (n - 1)
unfoldable pub least_below : (n start : ℕ) → (ℕ → ℕ) → ℕ
least_below zero start f = start
least_below (suc n) start f = min (least_below n start f) (f n)

-- the value of a choice that is not allowed: no minimum is above it, and the value of allowed choices in all weeks is below it
abbrev pub not_allowed : ℕ
not_allowed = 1000000000000000
