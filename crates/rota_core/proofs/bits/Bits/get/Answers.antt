use Rattle.std.proofs.Common.{◌<◌, ◌/◌, ◌%◌, length, get_or, eqb, sym, ap, ◌∙◌, arith, false}
use Rattle.std.proofs.lemmas.List.{get_or_default}
use Rattle.std.proofs.lemmas.Nat.Bits.{shr_and_one}
use Rattle.std.specs.Int.{bit_at}
use Rattle.rota_core.proofs.BitLemmas.{length-truths_of, get_or-truths_of}
use Rattle.rota_core.proofs.bits.Bits.get.Goals as goal

pub index-word-requires : goal.index-word-requires
index-word-requires c =
    let len = ap length (sym c.self.view_is) ∙ length-truths_of c.self.inside.words.items c.self.inside.len in
    omega (arith, len, c.self.invariant)

pub returns : goal.returns
returns c =
    let words = c.self.inside.words.items in
    let len = ap length (sym c.self.view_is) ∙ length-truths_of words c.self.inside.len in
    let index_in : c.args.index < c.self.inside.len = omega (arith, len) in
    let word_in : c.args.index / 64 < length words = omega (arith, len, c.self.invariant) in
    let word = c.index-word.ensures ∙ get_or_default words (c.args.index / 64) c.index-word.result.now 0 word_in in
    ap (λ bit. eqb bit 1) (shr_and_one c.index-word.result.now (c.args.index % 64) ∙ ap (λ w. bit_at w (c.args.index % 64)) word) ∙
    sym (get_or-truths_of words c.self.inside.len c.args.index index_in) ∙
    ap (λ truths. get_or truths c.args.index false) c.self.view_is
