-- Whether a cell is in a list, and in the list of a roster's cells.
use Rattle.std.proofs.Common.{◌≡◌, Bool, true, false, List, [], ◌∷◌, refl, sym, ap, ◌∙◌, arith, true≢false}
use Rattle.std.specs.List.{AllByRecursion, list_any}
use Rattle.std.proofs.lemmas.Bool.{or_from, false_from_ne_true, true_from_ne_false}
use Rattle.std.proofs.lemmas.Bool.Decides.{nat_tests}
use Rattle.rota_core.specs.declared.values.Cell.{Cell}
use Rattle.rota_core.specs.Roster.{Roster, Has, InWeek}
use Rattle.rota_core.specs.Problem.{Problem}
use Rattle.rota_core.specs.CellLists.{ListsCells}
use Rattle.rota_core.proofs.LogicWords.{all-weaker}
use Rattle.rota_read.specs.SolutionLayout.{is_same_cell, is_one_cell}
use Rattle.rota_core.specs.RosterCells.{cells_of}

-- ---- tests of cells

none_passes : {X : Type 0} (test : X → Bool) (xs : List X) → AllByRecursion (λ x. test x ≡ false) xs → list_any test xs ≡ false
none_passes test [] all = refl
none_passes test (x ∷ xs) all = or_from (test x) (list_any test xs) all.0 (none_passes test xs all.1)

is_same_cell-itself : (one : Cell) → is_same_cell one one ≡ true
is_same_cell-itself one = grind (arith, nat_tests)

same_cell : (one other : Cell) → one.nurse ≡ other.nurse → one.day ≡ other.day → one.shift ≡ other.shift → one.skill ≡ other.skill →
    one ≡ other
same_cell one other n d s k = λ i. record { nurse = n i; day = d i; shift = s i; skill = k i }

same_from_test : (one other : Cell) → is_same_cell one other ≡ true → one ≡ other
same_from_test one other same =
    same_cell one other (grind (arith, nat_tests)) (grind (arith, nat_tests)) (grind (arith, nat_tests)) (grind (arith, nat_tests))

module _ (problem : Problem) (roster : Roster) (lists : ListsCells problem roster) where
  pub is_one_cell-cells_of : (one : Cell) → InWeek problem one → roster one ≡ is_one_cell (cells_of problem roster) one
  is_one_cell-cells_of one in_week = by (roster one) refl
    where
      by : (there : Bool) → roster one ≡ there → there ≡ is_one_cell (cells_of problem roster) one
      by true there =
          sym (true_from_ne_false (is_one_cell (cells_of problem roster) one) (λ none.
          let differs = lists.all_there (is_same_cell one) none one (record { in_week = in_week; in_roster = there }) in
          true≢false (sym (is_same_cell-itself one) ∙ differs)))
      by false absent =
          sym (none_passes (is_same_cell one) (cells_of problem roster)
          (all-weaker (Has problem roster) (λ other. is_same_cell one other ≡ false)
          (λ other has. false_from_ne_true (is_same_cell one other) (λ same.
          true≢false (sym has.in_roster ∙ ap roster (sym (same_from_test one other same)) ∙ absent)))
          (cells_of problem roster) lists.theirs))
