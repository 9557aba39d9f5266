-- The list of a roster's cells: it rises, it contains the roster's cells, and it has at most one for each nurse and day.
use Rattle.std.proofs.Common.{◌≢◌, ℕ, ◌+◌, ◌*◌, ◌<◌, ◌≤◌, List, [], ◌∷◌, length, sym, ap, subst, inl, inr, arith}
use Rattle.std.specs.List.{AllByRecursion}
use Rattle.std.proofs.lemmas.Bool.{cases_lt}
use Rattle.std.proofs.lemmas.Nat.{mul-add-lt, same_from_place}
use Rattle.rota_core.specs.declared.values.Cell.{Cell}
use Rattle.rota_core.specs.Lists.{singleton_if}
use Rattle.rota_core.specs.Roster.{Roster, Has}
use Rattle.rota_core.specs.RosterCells.{cells_of, cell_at}
use Rattle.rota_core.specs.HardRules.{KeepsOneCell}
use Rattle.rota_core.specs.CellIndex.{cell_index, cell_count}
use Rattle.rota_core.specs.Problem.{Problem}
use Rattle.rota_core.proofs.CellIndices.{cell_at-in, cell_at-index, cell_index-lt, index-cell_at}
use Rattle.rota_core.proofs.CellsByIndex.{cell_if_in, cells_of-by_index}
use Rattle.rota_core.proofs.LogicWords.{AllByRecursion-concat_below, AllByRecursion-at, AllByRecursion-singleton_if, holds-where, rises-each, rises-singleton_if}
use Rattle.rota_core.specs.RisingLists.{RisesWithin}

module _ (problem : Problem) (roster : Roster) where
  abbrev index : Cell → ℕ
  index = cell_index problem.shifts problem.skills

  abbrev at : ℕ → Cell
  at = cell_at problem.shifts problem.skills

  abbrev count : ℕ
  count = cell_count problem.nurses problem.shifts problem.skills

  abbrev turn : ℕ → List Cell
  turn = cell_if_in problem.shifts problem.skills roster

  pub rises-cells_of : RisesWithin index 0 count (cells_of problem roster)
  rises-cells_of =
      subst (RisesWithin index 0 count) (cells_of-by_index problem roster)
      (rises-each index count turn (λ p. p) (λ p p_in.
      let same = index-cell_at problem.shifts problem.skills p in
      rises-singleton_if index p (p + 1) (roster (at p)) (at p) (omega (arith, same)) (omega (arith, same))))

  pub all-cells_of : (P : Cell → Type 0) → ((one : Cell) → Has problem roster one → P one) → AllByRecursion P (cells_of problem roster)
  all-cells_of P holds =
      subst (AllByRecursion P) (cells_of-by_index problem roster)
      (AllByRecursion-concat_below P count turn (λ p p_in.
      AllByRecursion-singleton_if P (roster (at p)) (at p) (λ there.
      holds (at p) (record { in_week = cell_at-in problem p p_in; in_roster = there }))))

  pub at-cells_of : (P : Cell → Type 0) → AllByRecursion P (cells_of problem roster) → (one : Cell) → Has problem roster one → P one
  at-cells_of P all one has =
      let inside = has.in_week in
      let p_in = cell_index-lt problem.nurses problem.shifts problem.skills one inside.nurse_in inside.day_in inside.shift_in inside.skill_in in
      let same = cell_at-index problem.shifts problem.skills one.nurse one.day one.shift one.skill inside.day_in inside.shift_in inside.skill_in in
      holds-where P (roster one) one
      (subst (λ other. AllByRecursion P (singleton_if (roster other) other)) same
      (AllByRecursion-at P count turn (subst (AllByRecursion P) (sym (cells_of-by_index problem roster)) all) (index one) p_in))
      has.in_roster

  -- ---- at most one for each nurse and day

  module _ (one_cell : KeepsOneCell problem roster) where
    -- the number of a cell's day, over all nurses
    abbrev day : Cell → ℕ
    day one = one.nurse * 7 + one.day

    day-later : (one other : Cell) → Has problem roster one → Has problem roster other → index one < index other → day one < day other
    day-later one other has next before =
        elim (cases_lt (day other) (day one)) [
          | inl after ↦
              let row = mul-add-lt (day other) problem.shifts other.shift (day one) after next.in_week.shift_in in
              absurd (omega (
                arith,
                mul-add-lt (day other * problem.shifts + other.shift) problem.skills other.skill (problem.shifts * day one) row next.in_week.skill_in,
              ))
          | inr not_after ↦
              let apart : day one ≢ day other = λ same.
              let parts = same_from_place one.nurse one.day other.nurse other.day 7 has.in_week.day_in next.in_week.day_in same in
              absurd (omega (arith, ap index (one_cell one other has next parts.0 parts.1))) in
              omega arith
        ]

    length-later : (one : Cell) (cells : List Cell) (end : ℕ) → Has problem roster one → AllByRecursion (Has problem roster) cells →
        RisesWithin index (index one + 1) end cells → day one + length (one ∷ cells) ≤ problem.nurses * 7
    length-later one [] end has all rises = omega (arith, has.in_week.nurse_in, has.in_week.day_in)
    length-later one (other ∷ cells) end has all rises =
        omega (arith, day-later one other has all.0 (omega (arith, rises.0)), length-later other cells end all.0 all.1 rises.1)

    at_most_days : (cells : List Cell) (end : ℕ) → AllByRecursion (Has problem roster) cells → RisesWithin index 0 end cells →
        length cells ≤ problem.nurses * 7
    at_most_days [] end all rises = omega arith
    at_most_days (one ∷ cells) end all rises = omega (arith, length-later one cells end all.0 all.1 rises.1)

    pub length-cells_of : length (cells_of problem roster) ≤ problem.nurses * 7
    length-cells_of = at_most_days (cells_of problem roster) count (all-cells_of (Has problem roster) (λ _ has. has)) rises-cells_of
