-- The week as the rules see it. Nurses, shift types and skills are numbered from 0. Days are 0 (Monday) to 6 (Sunday).
use Rattle.std.specs.Prelude.{ℕ, Bool}
use Rattle.rota_core.specs.Sizes.{Numbers}
use Rattle.rota_core.specs.declared.values.Span.{Span}
use Rattle.rota_core.specs.declared.values.Cell.{Cell}
use Rattle.rota_core.specs.declared.values.Contract.{Contract}
use Rattle.rota_core.specs.declared.values.Demand.{Demand}
use Rattle.rota_core.specs.declared.values.Past.{Past}

-- The data of one week on which the rules depend. First the numbers of nurses, shift types and skills, and whether it is the last week.
pub record Problem : Type 0 where
  pub numbers : Numbers
  pub open numbers use *
  pub is_last : Bool
  -- whether the excess of a total is charged in each week, not only in the last: the flag `--early`
  pub is_early : Bool
  pub has_skill : (nurse skill : ℕ) → Bool
  pub demand : (day shift skill : ℕ) → Demand
  -- whether the second shift type may not follow the first on the next day
  pub is_forbidden : (first second : ℕ) → Bool
  pub limits : (shift : ℕ) → Span
  pub contract : (nurse : ℕ) → Contract
  pub past : (nurse : ℕ) → Past
  -- the number of request rows that ask to keep the nurse off the shift type on that day; a row for any shift type counts for each
  pub requests : (nurse day shift : ℕ) → ℕ
  -- whether a cell is held: each roster must contain the held cells of the week
  pub is_held : Cell → Bool
