use Rattle.std.proofs.Common.{ap, get_or, not, false, ◌∙◌}
use Rattle.rota_core.proofs.RosterLemmas.{cell_index-in, set_of-seen, AddsCell-set}
use Rattle.rota_core.proofs.roster.Roster.put.Goals as goal

pub get-is_new-requires : goal.get-is_new-requires
get-is_new-requires c =
    let r = c.self.inside in
    rw c.index_of_cell-index.ensures.index (cell_index-in r.nurses r.shifts r.skills r.bits _ c.self.view_is c.args.cell c.self.invariant c.requires)

pub set-requires : goal.set-requires
set-requires c =
    let r = c.self.inside in
    rw c.index_of_cell-index.ensures.index (cell_index-in r.nurses r.shifts r.skills r.bits _ c.self.view_is c.args.cell c.self.invariant c.requires)

pub returns-clause-is_new : goal.returns-clause-is_new
returns-clause-is_new c =
    let r = c.self.inside in
    ap not (
    c.get-is_new.ensures ∙ ap (λ index. get_or r.bits index false) c.index_of_cell-index.ensures.index ∙
    set_of-seen r.nurses r.shifts r.skills r.bits _ c.self.view_is c.args.cell c.requires)

pub returns-clause-adds : goal.returns-clause-adds
returns-clause-adds c =
    let r = c.self.inside in
    rw (c.set.ensures, c.index_of_cell-index.ensures.index)
    (AddsCell-set r.nurses r.shifts r.skills r.bits _ c.self.view_is c.args.cell c.self.invariant c.requires)
