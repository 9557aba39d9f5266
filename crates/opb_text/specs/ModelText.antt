-- The text of a pseudo-Boolean model in the linear format of the Pseudo-Boolean Competition.
use Rattle.std.specs.Prelude.{ℕ, ℤ, pos, negsuc, List, [], ◌∷◌, ◌++◌, length, codes}
use Rattle.std.specs.List.{flat_map}
use Rattle.rota_core.specs.Numeral.{numeral, signed_numeral}
use Rattle.rota_items.specs.Linear.{Term, Constraint, Model}

-- the sign of a coefficient (`+` if it is not negative) and its digits
abbrev pub coefficient_text : ℤ → List ℕ
coefficient_text (pos n) = codes "+" ++ numeral n
coefficient_text (negsuc n) = signed_numeral (negsuc n)

-- the coefficient, the variable as `x` and its number, and a blank
abbrev pub term_text : Term ℕ → List ℕ
term_text term = coefficient_text term.0 ++ codes " x" ++ numeral term.1 ++ codes " "

-- the terms, one after the other
abbrev pub terms_text : List (Term ℕ) → List ℕ
terms_text terms = flat_map term_text terms

-- the line of a constraint: its terms, `>=`, its degree and a semicolon
abbrev pub constraint_line : Constraint → List ℕ
constraint_line constraint = terms_text constraint.terms ++ codes ">= " ++ signed_numeral constraint.degree ++ codes " ;\n"

-- the line of the objective: `min:`, its terms and a semicolon; no line if it has no term
abbrev pub objective_line : List (Term ℕ) → List ℕ
objective_line [] = []
objective_line (term ∷ terms) = codes "min: " ++ terms_text (term ∷ terms) ++ codes ";\n"

-- the first line: the number of variables and the number of constraints
abbrev pub first_line : ℕ → ℕ → List ℕ
first_line variables constraints =
    codes "* #variable= " ++ numeral variables ++ codes " #constraint= " ++ numeral constraints ++ codes "\n"

-- the whole text of the model: the first line, the line of the objective, and the lines of the constraints in their order
abbrev pub opb_text : Model → List ℕ
opb_text model =
    first_line model.variables (length model.constraints) ++ objective_line model.objective ++ flat_map constraint_line model.constraints
