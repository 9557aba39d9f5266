-- The cells that an instance holds.
use Rattle.std.proofs.Common.{◌≡◌, Some, None, [], length, sym, ap, ◌∙◌}
use Rattle.std.specs.List.{All}
use Rattle.std.proofs.lemmas.List.{nil_from_length}
use Rattle.std.proofs.lemmas.List.Elements.{All-from_recursion}
use Rattle.std.specs.Prelude.{Option, false}
use Rattle.std.specs.Option.{option_map_or}
use Rattle.rota_core.specs.InstanceTables.{InstanceTables, IsInstance, problem_of}
use Rattle.rota_core.specs.Roster.{InWeek}
use Rattle.rota_core.specs.RosterCells.{cells_of}
use Rattle.rota_core.specs.RosterCalls.{cells_in, count_of}
use Rattle.rota_core.specs.RosterTables.{RosterTables, HasShapeOf, set_of}
use Rattle.rota_core.proofs.CellLists.{all-cells_of}
use Rattle.rota_core.proofs.CellsByIndex.{cells_in-is}
use Rattle.rota_core.proofs.RosterCount.{count-cells_of, cells_of-none}

module _ (t : InstanceTables) (valid : IsInstance t) where
  module _ (roster : RosterTables) (is : t.held ≡ Some roster) where
    shape : HasShapeOf (problem_of t) roster
    shape = (valid.held roster is).1

    -- the number of held cells is the number of cells in the roster
    pub count-held : count_of roster ≡ length (cells_of (problem_of t) (problem_of t).is_held)
    count-held =
        count-cells_of (problem_of t) roster shape (valid.held roster is).0 ∙
        ap (λ (held : Option RosterTables). length (cells_of (problem_of t) (option_map_or set_of held (λ one. false)))) (sym is)

    -- they are the cells of the roster
    pub cells-held : cells_in roster ≡ cells_of (problem_of t) (problem_of t).is_held
    cells-held =
        cells_in-is (problem_of t) roster shape ∙
        ap (λ (held : Option RosterTables). cells_of (problem_of t) (option_map_or set_of held (λ one. false))) (sym is)

  -- each of them is a cell of the week
  pub held-inside : All (InWeek (problem_of t)) (cells_of (problem_of t) (problem_of t).is_held)
  held-inside =
      let problem = problem_of t in
      All-from_recursion _ _ (all-cells_of problem problem.is_held (InWeek problem) (λ one has. has.in_week))

  -- none, if there is no roster
  pub count-none_held : t.held ≡ None → 0 ≡ length (cells_of (problem_of t) (problem_of t).is_held)
  count-none_held is =
      sym (cells_of-none (problem_of t)) ∙
      ap (λ (held : Option RosterTables). length (cells_of (problem_of t) (option_map_or set_of held (λ one. false)))) (sym is)

  pub cells-none_held : t.held ≡ None → [] ≡ cells_of (problem_of t) (problem_of t).is_held
  cells-none_held is = sym (nil_from_length _ (sym (count-none_held is)))
