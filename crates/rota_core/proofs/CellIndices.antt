-- The cell at each index.
use Rattle.std.proofs.Common.{◌≡◌, ℕ, ◌+◌, ◌*◌, ◌/◌, ◌%◌, ◌<◌, zero, suc, refl, arith}
use Rattle.std.proofs.lemmas.Nat.{div-mul-add, mod-mul-add, div-add-mod', mul-add-lt}
use Rattle.std.proofs.Math.Nat.{div-lt_iff_lt-mul, mod-lt}
use Rattle.rota_core.specs.declared.values.Cell.{Cell}
use Rattle.rota_core.specs.Roster.{InWeek, cell}
use Rattle.rota_core.specs.CellIndex.{cell_index, cell_count}
use Rattle.rota_core.specs.RosterCells.{cell_at}
use Rattle.rota_core.specs.Problem.{Problem}

-- a cell within the numbers has an index
pub cell_index-lt : (nurses shifts skills : ℕ) (cell : Cell) → cell.nurse < nurses → cell.day < 7 → cell.shift < shifts → cell.skill < skills
    → cell_index shifts skills cell < cell_count nurses shifts skills
cell_index-lt nurses shifts skills cell n d s k =
    let day = mul-add-lt cell.nurse 7 cell.day nurses n d in
    let row = mul-add-lt (cell.nurse * 7 + cell.day) shifts cell.shift (7 * nurses) day s in
    let index = mul-add-lt ((cell.nurse * 7 + cell.day) * shifts + cell.shift) skills cell.skill (shifts * (7 * nurses)) row k in
    omega (arith, index)

-- at the index of a cell is that cell
pub cell_at-index : (shifts skills n d s k : ℕ) → d < 7 → s < shifts → k < skills
    → cell_at shifts skills (((n * 7 + d) * shifts + s) * skills + k) ≡ cell n d s k
cell_at-index S K n d s k d_in s_in k_in =
    let day = n * 7 + d in
    let row = day * S + s in
    rw (div-mul-add row K k k_in, mod-mul-add row K k k_in, div-mul-add day S s s_in, mod-mul-add day S s s_in)
    (rw (div-mul-add n 7 d d_in, mod-mul-add n 7 d d_in) refl)

-- a product above a number has no factor 0
some_rows : (p a w : ℕ) → p < a * w → 0 < w
some_rows p a zero below = absurd (omega arith)
some_rows p a (suc w) below = omega arith

-- the row of an index, if a row has w indices
row-below : (p a w : ℕ) → p < a * w → p / w < a
row-below p a w below = (div-lt_iff_lt-mul (some_rows p a w below)).1 below

column-below : (p a w : ℕ) → p < a * w → p % w < w
column-below p a w below = mod-lt p (some_rows p a w below)

-- the cell at an index of the week lies within the week
module _ (problem : Problem) (index : ℕ) (below : index < cell_count problem.nurses problem.shifts problem.skills) where
  shift_row : index / problem.skills < 7 * problem.nurses * problem.shifts
  shift_row = row-below index (7 * problem.nurses * problem.shifts) problem.skills below

  day_row : index / problem.skills / problem.shifts < problem.nurses * 7
  day_row = omega (arith, row-below (index / problem.skills) (7 * problem.nurses) problem.shifts shift_row)

  pub cell_at-in : InWeek problem (cell_at problem.shifts problem.skills index)
  cell_at-in = record {
    nurse_in = row-below (index / problem.skills / problem.shifts) problem.nurses 7 day_row;
    day_in = column-below (index / problem.skills / problem.shifts) problem.nurses 7 day_row;
    shift_in = column-below (index / problem.skills) (7 * problem.nurses) problem.shifts shift_row;
    skill_in = column-below index (7 * problem.nurses * problem.shifts) problem.skills below;
  }

-- the cell at an index has that index
pub index-cell_at : (shifts skills index : ℕ) → cell_index shifts skills (cell_at shifts skills index) ≡ index
index-cell_at shifts skills index =
    rw (div-add-mod' (index / skills / shifts) 7, div-add-mod' (index / skills) shifts, div-add-mod' index skills) refl
