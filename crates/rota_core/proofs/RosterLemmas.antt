-- Cells and their indices.
use Rattle.std.proofs.Common.{◌≡◌, ℕ, ◌<◌, Bool, true, false, List, length, get_or, set, sym, ap, ◌∙◌, subst, arith}
use Rattle.std.proofs.lemmas.List.{get_or-take, get_or-set_same, get_or-set_other}
use Rattle.rota_core.specs.declared.values.Cell.{Cell}
use Rattle.rota_core.specs.RosterTables.{RosterTables, set_of}
use Rattle.rota_core.specs.CellIndex.{cell_index, cell_count}
use Rattle.rota_core.specs.RosterCells.{cell_at}
use Rattle.rota_core.specs.RosterCalls.{InShape, AddsCell, HoldsRoster, roster_tables}
use Rattle.rota_core.proofs.CellIndices.{cell_at-index, cell_index-lt}

-- two cells with the same index are the same cell
same_from_cell_index : (shifts skills : ℕ) (one other : Cell) → one.day < 7 → one.shift < shifts → one.skill < skills →
    other.day < 7 → other.shift < shifts → other.skill < skills → cell_index shifts skills one ≡ cell_index shifts skills other →
    one ≡ other
same_from_cell_index shifts skills one other d s k d' s' k' same =
    sym (cell_at-index shifts skills one.nurse one.day one.shift one.skill d s k) ∙ ap (cell_at shifts skills) same ∙
    cell_at-index shifts skills other.nurse other.day other.shift other.skill d' s' k'

-- a roster whose truth values are seen as tables
module _ (nurses shifts skills : ℕ) (bits : List Bool) (t : RosterTables) (seen : roster_tables nurses shifts skills bits ≡ t) where
  seen_in : (cell : Cell) → InShape t cell → InShape (roster_tables nurses shifts skills bits) cell
  seen_in cell in_t = subst (λ u. InShape u cell) (sym seen) in_t

  index-in : (cell : Cell) → InShape t cell → cell_index shifts skills cell < cell_count nurses shifts skills
  index-in cell in_t =
      let h = seen_in cell in_t in
      cell_index-lt nurses shifts skills cell h.nurse_in h.day_in h.shift_in h.skill_in

  -- a cell of the roster has an index among the truth values
  pub cell_index-in : (cell : Cell) → HoldsRoster nurses shifts skills bits → InShape t cell →
      cell_index shifts skills cell < length bits
  cell_index-in cell holds in_t = omega (arith, holds.enough, index-in cell in_t)

  -- the roster's set, read from the truth values
  pub set_of-inside : (cell : Cell) → cell_index shifts skills cell < cell_count nurses shifts skills →
      get_or bits (cell_index shifts skills cell) false ≡ set_of t cell
  set_of-inside cell inside =
      sym (get_or-take (cell_count nurses shifts skills) bits (cell_index shifts skills cell) false inside) ∙ ap (λ u. set_of u cell) seen

  pub set_of-seen : (cell : Cell) → InShape t cell → get_or bits (cell_index shifts skills cell) false ≡ set_of t cell
  set_of-seen cell in_t = set_of-inside cell (index-in cell in_t)

  -- one more truth value is one more cell
  pub AddsCell-set : (cell : Cell) → HoldsRoster nurses shifts skills bits → InShape t cell →
      AddsCell t (roster_tables nurses shifts skills (set bits (cell_index shifts skills cell) true)) cell
  AddsCell-set cell holds in_t =
      let h = seen_in cell in_t in
      let index = cell_index shifts skills cell in
      let count = cell_count nurses shifts skills in
      record {
        same_numbers = ap (λ u. u.numbers) seen;
        is_there = get_or-take count (set bits index true) index false (index-in cell in_t) ∙
            get_or-set_same bits index true false (cell_index-in cell holds in_t);
        others_stay = λ other in_other ne.
            let o = seen_in other in_other in
            get_or-take count (set bits index true) (cell_index shifts skills other) false (index-in other in_other) ∙
            get_or-set_other bits index (cell_index shifts skills other) true false
            (λ same. ne (same_from_cell_index shifts skills other cell o.day_in o.shift_in o.skill_in h.day_in h.shift_in h.skill_in same)) ∙
            set_of-seen other in_other;
      }
