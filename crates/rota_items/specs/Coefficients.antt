-- The coefficients of constraints.
use Rattle.std.specs.Prelude.{◌≡◌, ◌⊎◌, ℕ, ℤ, pos, negsuc, All}
use Rattle.rota_items.specs.Linear.{Term, Constraint}

-- 1 or -1
abbrev pub IsUnit : ℤ → Type 0
IsUnit coefficient = (coefficient ≡ pos 1) ⊎ (coefficient ≡ negsuc 0)

abbrev pub HasUnitCoefficients : Constraint → Type 0
HasUnitCoefficients constraint = All (λ (term : Term ℕ). IsUnit term.0) constraint.terms
