-- Lists whose numbers rise from a first number, below an end.
use Rattle.std.specs.Prelude.{ℕ, ◌+◌, ◌≤◌, List, [], ◌∷◌}

-- the numbers of the elements rise, from the first number on and below the end
abbrev pub RisesWithin : {X : Type 0} → (X → ℕ) → ℕ → ℕ → List X → Type 0
RisesWithin number first end [] = first ≤ end
RisesWithin number first end (x ∷ xs) = (first ≤ number x) × RisesWithin number (number x + 1) end xs
