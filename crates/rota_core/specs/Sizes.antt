-- The number of days of a week, and the numbers of nurses, shift types and skills.
use Rattle.std.specs.Prelude.{ℕ}

-- the number of days in a week
abbrev pub DAYS : ℕ
DAYS = 7

-- the numbers of nurses, shift types and skills
pub record Numbers : Type 0 where
  pub nurses : ℕ
  pub shifts : ℕ
  pub skills : ℕ
