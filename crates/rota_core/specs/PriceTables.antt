-- Tables of prices.
use Rattle.std.specs.Prelude.{◌≡◌, ℕ, ◌+◌, ◌*◌, ◌≤◌, ◌<◌, List, length, slice_index_or}
use Rattle.std.specs.List.{AllByRecursion}
use Rattle.rota_core.specs.Limits.{max_price}
use Rattle.rota_core.specs.Sizes.{DAYS}
use Rattle.rota_core.specs.Problem.{Problem}
use Rattle.rota_core.specs.Prices.{ArePrices, Prices}

-- For S shift types and K skills, index (d*S+s)*K+k of `prices` is the price of day d, shift type s and skill k.
pub record PriceTables : Type 0 where
  pub shifts : ℕ
  pub skills : ℕ
  pub prices : List ℕ

-- there is one price for each index, and none is above the maximum
pub record IsPriceTables (t : PriceTables) : Type 0 where
  pub prices : length t.prices ≡ DAYS * t.shifts * t.skills
  pub within : AllByRecursion (λ price. price ≤ max_price) t.prices

-- the index of a place
abbrev pub price_index : PriceTables → (day shift skill : ℕ) → ℕ
price_index t d s k = (d * t.shifts + s) * t.skills + k

-- the prices of the table (a place outside the week may have the index of another)
abbrev pub prices_of : PriceTables → Prices
prices_of t d s k = slice_index_or t.prices (price_index t d s k) 0

-- the table is for the week's shift types and skills, and no price is above the maximum
pub record IsForWeek (problem : Problem) (t : PriceTables) : Type 0 where
  pub shifts : t.shifts ≡ problem.shifts
  pub skills : t.skills ≡ problem.skills
  pub within : ArePrices (prices_of t)

-- the new table has the shape of the old one, the price at the place, and otherwise the prices of the old one
pub record SetsPrice (old new : PriceTables) (day shift skill price : ℕ) : Type 0 where
  pub same_shifts : new.shifts ≡ old.shifts
  pub same_skills : new.skills ≡ old.skills
  pub is_set : prices_of new day shift skill ≡ price
  pub others_stay : (d s k : ℕ) → d < DAYS → s < old.shifts → k < old.skills → ((d ≡ day) × (s ≡ shift) × (k ≡ skill) → ⊥) →
      prices_of new d s k ≡ prices_of old d s k
