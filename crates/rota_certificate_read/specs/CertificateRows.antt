-- The rows of a certificate's lists of prices, as the contracts of private functions see them.
use Rattle.std.specs.Prelude.{List, Vec, map}
use Rattle.rota_core.specs.PriceTables.{PriceTables}

-- the tables of each list of prices
abbrev pub lists_of : {Z : Type 0} → List (Vec PriceTables Z) → List (List PriceTables)
lists_of lists = map (λ list. list.items) lists
