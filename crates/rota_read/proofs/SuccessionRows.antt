-- The rows of successions that a reader keeps, as lists.
use Rattle.std.proofs.Common.{◌≡◌, ℕ, List, Option, Some, None, Vec, get_or, set, is_some, refl, ◌∙◌, ap}
use Rattle.std.proofs.lemmas.List.{map-set}
use Rattle.std.proofs.Math.ListN as lists
use Rattle.std.specs.Option.{option_map}
use Rattle.rota_layout.specs.Layout.{has_row}
use Rattle.rota_read.specs.ScenarioRows.{successions_of}
use Rattle.rota_layout.proofs.ReadingLaws.{known_taken}

module _ {Z : Type 0} (rows : List (Option (Vec ℕ Z))) (shift : ℕ) where
  -- a shift type has a row in both, or in neither
  pub has_row-kept : has_row (successions_of rows) shift ≡ is_some (get_or rows shift None)
  has_row-kept =
      ap (λ row. is_some row) (lists.get_or-map (option_map (λ indices. indices.items)) rows shift None) ∙ by (get_or rows shift None)
    where
      by : (row : Option (Vec ℕ Z)) → is_some (option_map (λ indices. indices.items) row) ≡ is_some row
      by None = refl
      by (Some indices) = refl

  -- a row is put at the same index
  pub set-kept : (indices : Vec ℕ Z) →
      successions_of (set rows shift (Some indices)) ≡ set (successions_of rows) shift (Some indices.items)
  set-kept indices = map-set (option_map (λ indices. indices.items)) rows shift (Some indices)

pub ruleset succession_steps = (known_taken, has_row-kept, set-kept)
