-- Prices of places. A place is a day, a shift type and a skill.
use Rattle.std.specs.Prelude.{ℕ, ◌≤◌}
pub use Rattle.rota_core.specs.Limits.{max_price}

-- the value of a point, in the unit of prices; `POINT` of `src/prices.rt` has the same value
abbrev pub thousandths : ℕ
thousandths = 1000

-- the price of each place, in thousandths of a point
abbrev pub Prices : Type 0
Prices = (day shift skill : ℕ) → ℕ

-- no price is above the maximum
abbrev pub ArePrices : Prices → Type 0
ArePrices prices = (d s k : ℕ) → prices d s k ≤ max_price
