use Rattle.std.proofs.Common.{false, sym, ap, ◌∙◌}
use Rattle.std.proofs.lemmas.List.{get_or-take}
use Rattle.rota_core.specs.RosterCalls.{cells_in, roster_tables}
use Rattle.rota_core.proofs.CellsByIndex.{cells-at_indices, indices-within}
use Rattle.rota_core.proofs.roster.Roster.cells.Goals as goal

pub at-requires : goal.at-requires
at-requires c =
    let r = c.self.inside in
    rw (c.true_indices_below-indices.ensures, c.count_of_cells-count.ensures) (indices-within r.nurses r.shifts r.skills r.bits c.self.invariant)

pub returns : goal.returns
returns c =
    let r = c.self.inside in
    rw (c.at.ensures, c.true_indices_below-indices.ensures, c.count_of_cells-count.ensures)
    (cells-at_indices (roster_tables r.nurses r.shifts r.skills r.bits) r.bits (λ p below. sym (get_or-take _ r.bits p false below)) ∙
    ap cells_in c.self.view_is)
