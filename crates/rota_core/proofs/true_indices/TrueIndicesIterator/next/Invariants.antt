use Rattle.std.proofs.Common.{◌≡◌, ◌-◌, ◌≤◌, length}
use Rattle.rota_core.specs.Bits.{true_from}
use Rattle.rota_core.proofs.true_indices.TrueIndicesIterator.next.Given as goal

-- only false values were passed over
abbrev pub invariant-loop-self : goal.invariant-loop-self
invariant-loop-self l =
    let it = l.self-inside in
    record {
      same_end : it.end ≡ l.end;
      within : l.end ≤ length it.bits.now;
      left : true_from it.bits.now it.next (l.end - it.next) ≡ l.fn.self;
    }

abbrev pub decreases-loop-self : goal.decreases-loop-self
decreases-loop-self l = l.end - l.self-inside.next
