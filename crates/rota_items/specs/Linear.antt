-- Linear constraints over truth values, and their meaning: the linear format of the Pseudo-Boolean Competition.
use Rattle.std.specs.Prelude.{ℕ, ℤ, pos, ◌+ℤ◌, ◌≤ℤ◌, Bool, if◌then◌else◌, List, [], ◌∷◌, All}

-- a coefficient, and the cell or variable number to which it belongs
abbrev pub Term : Type 0 → Type 0
Term X = ℤ × X

-- the sum of the coefficients whose cells or variables are true in the assignment
abbrev pub value_of : {X : Type 0} → (X → Bool) → List (Term X) → ℤ
value_of assignment [] = pos 0
value_of assignment (term ∷ terms) = (if assignment term.1 then term.0 else pos 0) +ℤ value_of assignment terms

-- a constraint: the coefficients of its true variables must sum to at least the degree
pub record Constraint : Type 0 where
  pub terms : List (Term ℕ)
  pub degree : ℤ

-- a model: the number of its variables, its objective, which is to be minimized, and its constraints
pub record Model : Type 0 where
  pub variables : ℕ
  pub objective : List (Term ℕ)
  pub constraints : List Constraint

-- the coefficients of the true variables sum to at least the degree
abbrev pub Satisfies : (ℕ → Bool) → Constraint → Type 0
Satisfies assignment constraint = constraint.degree ≤ℤ value_of assignment constraint.terms

-- the assignment satisfies every constraint of the model
abbrev pub SatisfiesModel : (ℕ → Bool) → Model → Type 0
SatisfiesModel assignment model = All (Satisfies assignment) model.constraints

-- the value of the model's objective under the assignment
abbrev pub objective_value : (ℕ → Bool) → Model → ℤ
objective_value assignment model = value_of assignment model.objective
