-- Terms in ascending order of their variables.
use Rattle.std.specs.Prelude.{ℕ, ◌+◌, ◌≤◌, List, [], ◌∷◌}
use Rattle.rota_items.specs.Linear.{Term, Constraint}

-- the variables rise from this number on
abbrev pub RisesFrom : ℕ → List (Term ℕ) → Type 0
RisesFrom first [] = Unit {0}
RisesFrom first (term ∷ terms) = (first ≤ term.1) × RisesFrom (term.1 + 1) terms

-- the variables rise, from 1 on, so that each occurs once
abbrev pub HasRisingTerms : Constraint → Type 0
HasRisingTerms constraint = RisesFrom 1 constraint.terms
