use Rattle.std.proofs.Common.{◌<◌, ◌≤◌, ◌*◌, ◌/◌, ◌%◌, length, set, sym, ap, ◌∙◌, arith, true}
use Rattle.std.proofs.lemmas.List.{get_or_default}
use Rattle.rota_core.specs.Bits.{truths_of}
use Rattle.rota_core.proofs.BitLemmas.{with_bit, length-truths_of, truths_of-with_bit}
use Rattle.rota_core.proofs.bits.Bits.set.Goals as goal

pub index_mut-word-requires : goal.index_mut-word-requires
index_mut-word-requires c =
    let len = ap length (sym c.self.view_is) ∙ length-truths_of c.self.inside.words.items c.self.inside.len in
    omega (arith, len, c.self.invariant)

pub returns : goal.returns
returns c =
    let words = c.self.inside.words.items in
    let n = c.self.inside.len in
    let index = c.args.index in
    let len = ap length (sym c.self.view_is) ∙ length-truths_of words n in
    let index_in : index < n = omega (arith, len) in
    let word_in : index / 64 < length words = omega (arith, len, c.self.invariant) in
    let fits : n ≤ 64 * length words = omega (arith, c.self.invariant) in
    let word = c.index_mut-word.ensures.value ∙ get_or_default words (index / 64) c.index_mut-word.result.now 0 word_in in
    ap (λ w. truths_of (set words (index / 64) (with_bit w (index % 64))) n) word ∙
    truths_of-with_bit words n index index_in fits ∙
    ap (λ truths. set truths index true) c.self.view_is
