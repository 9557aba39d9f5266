use Rattle.std.proofs.Common.{ap, arith, get_or, false, ◌∙◌}
use Rattle.rota_core.proofs.RosterLemmas.{set_of-inside}
use Rattle.rota_core.proofs.roster.Roster.has.Goals as goal

pub get-requires : goal.get-requires
get-requires c = omega (arith, c.self.invariant.enough)

pub returns : goal.returns
returns c =
    let r = c.self.inside in
    c.get.ensures ∙ ap (λ index. get_or r.bits index false) c.index_of_cell-index.ensures.index ∙
    set_of-inside r.nurses r.shifts r.skills r.bits _ c.self.view_is c.args.cell (omega arith)
