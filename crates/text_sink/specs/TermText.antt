-- The text of a term with the coefficient 1 or -1.
use Rattle.std.specs.Prelude.{ℕ, Bool, List, ◌∷◌, ◌++◌, codes, decimal, if◌then◌else◌}
use Rattle.rota_core.specs.Numeral.{numeral}

-- the sign of the coefficient 1 or -1
abbrev pub sign : Bool → ℕ
sign positive = if positive then 43 else 45

-- a term and a blank
abbrev pub unit_text : Bool → ℕ → List ℕ
unit_text positive variable = sign positive ∷ codes "1 x" ++ numeral variable ++ codes " "

-- the text between the sign and the last two digits
abbrev pub prefix_text : ℕ → List ℕ
prefix_text hundreds = codes "1 x" ++ decimal hundreds
