-- The results of the calls on a roster.
use Rattle.std.specs.Prelude.{◌≡◌, ◌≢◌, ℕ, ◌≤◌, ◌<◌, Bool, true, Option, Some, None, List, [], length, take}
use Rattle.std.specs.List.{AllByRecursion, count_by}
use Rattle.rota_core.specs.Limits.{Within, max_nurses, max_shifts, max_skills}
use Rattle.rota_core.specs.Sizes.{DAYS}
use Rattle.rota_core.specs.declared.values.Cell.{Cell}
use Rattle.rota_core.specs.Roster.{cell}
use Rattle.rota_core.specs.RosterTables.{RosterTables, set_of}
use Rattle.rota_core.specs.CellIndex.{cell_count}
use Rattle.rota_core.specs.Lists.{concat_below, singleton_if}

-- the number of cells in the roster
abbrev pub count_of : RosterTables → ℕ
count_of t = count_by (λ is_in. is_in) t.cells

-- the cell lies within the roster's numbers
pub record InShape (t : RosterTables) (cell : Cell) : Type 0 where
  pub nurse_in : cell.nurse < t.nurses
  pub day_in : cell.day < DAYS
  pub shift_in : cell.shift < t.shifts
  pub skill_in : cell.skill < t.skills

-- the new roster has the shape of the old one, the cell, and otherwise exactly the cells of the old one
pub record AddsCell (old new : RosterTables) (cell : Cell) : Type 0 where
  pub same_numbers : new.numbers ≡ old.numbers
  pub is_there : set_of new cell ≡ true
  pub others_stay : (other : Cell) → InShape old other → other ≢ cell → set_of new other ≡ set_of old other

-- the roster with these numbers of nurses, shift types and skills, and these truth values; the list of truth values may be longer
abbrev pub roster_tables : (nurses shifts skills : ℕ) → List Bool → RosterTables
roster_tables nurses shifts skills bits = record {
  numbers = record { nurses = nurses; shifts = shifts; skills = skills };
  cells = take (cell_count nurses shifts skills) bits;
}

-- the numbers are within the limits, and there is a truth value for each cell
pub record HoldsRoster (nurses shifts skills : ℕ) (bits : List Bool) : Type 0 where
  pub nurses_in : Within max_nurses nurses
  pub shifts_in : Within max_shifts shifts
  pub skills_in : Within max_skills skills
  pub enough : cell_count nurses shifts skills ≤ length bits

-- the indices, or none if they are not given
abbrev pub given_indices : Option (List ℕ) → List ℕ
given_indices None = []
given_indices (Some indices) = indices

-- the numbers are within the limits, and the indices are indices of cells
pub record AreIndices (shifts skills : ℕ) (indices : List ℕ) : Type 0 where
  pub shifts_in : Within max_shifts shifts
  pub skills_in : Within max_skills skills
  pub below : AllByRecursion (λ index. index < cell_count max_nurses shifts skills) indices

-- the cells of a roster's tables
unfoldable pub cells_in : RosterTables → List Cell
cells_in t =
    concat_below t.nurses (λ n. concat_below DAYS (λ d. concat_below t.shifts (λ s. concat_below t.skills (λ k.
    singleton_if (set_of t (cell n d s k)) (cell n d s k)))))
