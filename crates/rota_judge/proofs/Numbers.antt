-- Each number up to the number of cells belongs to one cell, and the assignment of a roster follows these numbers.
use Rattle.rota_judge.proofs.Common.Imports.{◌≡◌, ℕ, ◌-◌, ◌<◌, ap, ◌∙◌, arith, InWeek, cell_index, cell_at, Problem, Cell}
use Rattle.rota_judge.proofs.Common.Imports.{cell_number, unit_number, cell_of_number, ◌+◌, true, false, refl, sym, slice_index_or}
use Rattle.rota_judge.proofs.Common.Imports.{lt-ltb, ne_eqb, eq-eqb, Roster, RosterTables, HasShapeOf, set_of, assignment_of}
use Rattle.rota_items.proofs.ItemLemmas.{cell_number-below}
use Rattle.rota_core.proofs.CellIndices.{cell_at-in, cell_at-index, index-cell_at}

pub cell_of-cell_number : (problem : Problem) (one : Cell) → InWeek problem one → cell_of_number problem (cell_number problem one) ≡ one
cell_of-cell_number problem one inside =
    let index : cell_number problem one - 1 ≡ cell_index problem.shifts problem.skills one = omega arith in
    ap (cell_at problem.shifts problem.skills) index ∙
    cell_at-index problem.shifts problem.skills one.nurse one.day one.shift one.skill inside.day_in inside.shift_in inside.skill_in

module _ (problem : Problem) (v : ℕ) (some : 0 < v) (below : v < unit_number problem) where
  pub cell_of_number-in : InWeek problem (cell_of_number problem v)
  cell_of_number-in = cell_at-in problem (v - 1) (omega arith)

  pub cell_number-of : cell_number problem (cell_of_number problem v) ≡ v
  cell_number-of = omega (arith, index-cell_at problem.shifts problem.skills (v - 1))

-- ---- the assignment of a roster

pub assignment_of-unit : (problem : Problem) (roster : Roster) → assignment_of problem roster (unit_number problem) ≡ true
assignment_of-unit problem roster = rw (eq-eqb (unit_number problem) (unit_number problem) refl) refl

-- a variable below the unit variable is true if its cell is in the roster
assigned : (problem : Problem) (roster : Roster) (v : ℕ) → 0 < v → v < unit_number problem →
    assignment_of problem roster v ≡ roster (cell_of_number problem v)
assigned problem roster v positive below =
    rw (ne_eqb v (unit_number problem) (omega arith), lt-ltb 0 v positive, lt-ltb v (unit_number problem) below) refl

pub assignment_of-cell : (problem : Problem) (roster : Roster) (one : Cell) → InWeek problem one →
    assignment_of problem roster (cell_number problem one) ≡ roster one
assignment_of-cell problem roster one inside =
    assigned problem roster (cell_number problem one) (omega arith) (cell_number-below problem one inside) ∙
    ap roster (cell_of-cell_number problem one inside)

-- the truth values of a roster's cells are ordered by their indices
pub index-assigned : (problem : Problem) (tables : RosterTables) (index v : ℕ) → HasShapeOf problem tables → v ≡ index + 1 →
    v < unit_number problem → slice_index_or tables.cells index false ≡ assignment_of problem (set_of tables) v
index-assigned problem tables index v shape next below =
    let same : index ≡ cell_index tables.shifts tables.skills (cell_of_number problem v) =
    rw shape (omega (arith, cell_number-of problem v (omega arith) below)) in
    ap (λ at. slice_index_or tables.cells at false) same ∙ sym (assigned problem (set_of tables) v (omega arith) below)
