use Rattle.std.proofs.Common.{length, sym, ap, ◌∙◌, arith}
use Rattle.rota_core.proofs.BitLemmas.{length-truths_of, get_or-falses, get_or-no_falses}
use Rattle.rota_core.proofs.bits.Bits.falses_from.Goals as goal

pub index-requires : goal.index-requires
index-requires c =
    let len = ap length (sym c.self.view_is) ∙ length-truths_of c.self.inside.words.items c.self.inside.len in
    omega (arith, len, c.self.invariant)

pub returns-clause-falses : goal.returns-clause-falses
returns-clause-falses c =
    get_or-falses c.self.inside.words.items c.self.inside.len c.args.index c.index.result.now c.min.result c.args.self.now c.self.view_is
    c.requires (omega (arith, c.self.invariant)) c.index.ensures (omega arith) c.min.ensures

pub returns-clause-none : goal.returns-clause-none
returns-clause-none c =
    get_or-no_falses c.self.inside.words.items c.self.inside.len c.args.index c.index.result.now c.min.result c.args.self.now c.self.view_is
    c.requires (omega (arith, c.self.invariant)) c.index.ensures (omega arith) c.min.ensures
