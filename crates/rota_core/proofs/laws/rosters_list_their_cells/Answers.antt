use Rattle.std.proofs.Common.{◌≡◌, Bool, false, List, [], ◌∷◌}
use Rattle.std.specs.List.{AllByRecursion, list_any}
use Rattle.std.proofs.lemmas.Bool.{or_parts}
use Rattle.rota_core.specs.Roster.{Has}
use Rattle.rota_core.specs.RosterCells.{cells_of}
use Rattle.rota_core.proofs.CellLists.{all-cells_of, at-cells_of, length-cells_of, rises-cells_of}
use Rattle.rota_core.proofs.CellsByIndex.{cells_in-is}
use Rattle.rota_core.proofs.RosterCount.{count-cells_of}
use Rattle.rota_core.proofs.laws.rosters_list_their_cells.Goals as goal

all_fail : {X : Type 0} (test : X → Bool) (xs : List X) → list_any test xs ≡ false → AllByRecursion (λ x. test x ≡ false) xs
all_fail test [] none = tt
all_fail test (x ∷ xs) none =
    let parts = or_parts (test x) (list_any test xs) none in
    (parts.0, all_fail test xs parts.1)

pub returns-clause-cells : goal.returns-clause-cells
returns-clause-cells c = λ week roster. record {
  rise = rises-cells_of week roster;
  theirs = all-cells_of week roster (Has week roster) (λ _ has. has);
  all_there = λ test none. at-cells_of week roster (λ one. test one ≡ false) (all_fail test (cells_of week roster) none);
  few = length-cells_of week roster;
}

pub returns-clause-tables : goal.returns-clause-tables
returns-clause-tables c = λ week t shape. record { cells = cells_in-is week t shape; count = count-cells_of week t shape }
