-- A leaf of a tree of cases: weeks that are lent with their prices, and the conditions of the case.
use Rattle.std.specs.Prelude.{◌≡◌, ℕ, ◌≤◌, ◌<◌, ⊤, List, [], ◌∷◌, length, map}
use Rattle.std.specs.List.{AllByRecursion}
use Rattle.rota_core.specs.InstanceTables.{problem_of}
use Rattle.rota_core.specs.Limits.{max_weeks}
use Rattle.rota_core.specs.PriceTables.{prices_of}
use Rattle.rota_core.specs.Prices.{Prices}
use Rattle.rota_core.specs.Problem.{Problem}
use Rattle.rota_certificate.specs.CaseLimits.{IsLimitedCase}
use Rattle.rota_certificate.specs.Facts.{Case}
use Rattle.rota_certificate.specs.LeafBounds.{leaf_weeks}
use Rattle.rota_certificate.specs.NurseBounds.{LeafWeek}
use Rattle.rota_certificate.specs.declared.stages.LentWeek.{LentWeek}

-- the week that is lent, and its prices
abbrev pub week_lent : LentWeek → Problem
week_lent one = problem_of one.instance.now

abbrev pub prices_lent : LentWeek → Prices
prices_lent one = prices_of one.prices.now

-- the weeks of a leaf that are lent with their prices, and the conditions of its case
pub record LentTables : Type 0 where
  pub weeks : List LentWeek
  pub case : Case

-- the weeks of the leaf
abbrev pub weeks_of : LentTables → List LeafWeek
weeks_of leaf = leaf_weeks leaf.case 0 (map week_lent leaf.weeks) (map prices_lent leaf.weeks)

-- the week has the numbers, limits and contracts of another
pub record Fits (other : Problem) (one : LentWeek) : Type 0 where
  pub numbers : (week_lent one).numbers ≡ other.numbers
  pub limits : (s : ℕ) → (week_lent one).limits s ≡ other.limits s
  pub contract : (n : ℕ) → (week_lent one).contract n ≡ other.contract n

-- the weeks have the numbers, limits and contracts of the first
abbrev pub AreFit : List LentWeek → Type 0
AreFit [] = ⊤
AreFit (first ∷ later) = AllByRecursion (Fits (week_lent first)) (first ∷ later)

-- the leaf has at least one week and at most `max_weeks`, all fit the first, and the numbers of its case are within their limits
pub record IsLeaf (leaf : LentTables) : Type 0 where
  pub some : 0 < length leaf.weeks
  pub count : length leaf.weeks ≤ max_weeks
  pub fit : AreFit leaf.weeks
  pub case : IsLimitedCase leaf.case
