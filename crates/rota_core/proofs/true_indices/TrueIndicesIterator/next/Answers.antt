use Rattle.std.proofs.Common.{◌+◌, refl, sym, ◌∙◌, arith, rules}
use Rattle.rota_core.proofs.TruthIndices.{true_from-true, true_from-falses}
use Rattle.rota_core.proofs.true_indices.TrueIndicesIterator.next.Goals as goal

pub returns-then-falses-eq0-clause-steps : goal.returns-then-falses-eq0-clause-steps
returns-then-falses-eq0-clause-steps c =
    let it = c.loop-self.self-inside in
    let truth = c.falses_from-falses.ensures.none c.if-falses-eq0.true in
    let first = true_from-true it.bits.now it.next c.self.inside.end c.loop-self-test.true truth in
    rw c.loop-self.invariant.same_end (sym c.loop-self.invariant.left ∙ first)

pub returns-then-falses-eq0-clause-goes : goal.returns-then-falses-eq0-clause-goes
returns-then-falses-eq0-clause-goes c = let steps = returns-then-falses-eq0-clause-steps c in search rules

pub loop-self-preserved : goal.loop-self-preserved
loop-self-preserved c =
    let it = c.loop-self.self-inside in
    let count = c.min.result in
    let falses = c.falses_from-falses.ensures.falses in
    let others = true_from-falses it.bits.now count it.next (it.next + count) c.self.inside.end refl (omega arith)
    (λ k after below. falses k after (omega arith)) in
    record { left = sym others ∙ c.loop-self.invariant.left; same_end = search rules; within = search rules }
