use Rattle.std.proofs.Common.{◌≡◌, ◌≤◌, ◌*◌, ap, ◌∙◌, arith, replicate}
use Rattle.std.proofs.lemmas.Grind.{div_ceil_times}
use Rattle.rota_core.specs.Bits.{truths_of}
use Rattle.rota_core.proofs.BitLemmas.{truths_of-zeros}
use Rattle.rota_core.proofs.bits.Bits.new.Goals as goal

pub returns : goal.returns
returns c =
    let zeros : c.in_ok-words.words.items ≡ replicate c.div_ceil.result 0 = c.in_ok-words.ensures.items_if_clones_equal (λ y same. same) in
    let enough : c.args.len ≤ 64 * c.div_ceil.result = omega (arith, c.div_ceil.ensures, div_ceil_times c.args.len 64 (omega arith)) in
    ap (λ words. truths_of words c.args.len) zeros ∙ truths_of-zeros c.div_ceil.result c.args.len enough
