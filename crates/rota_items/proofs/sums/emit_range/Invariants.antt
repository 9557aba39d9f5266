use Rattle.rota_items.proofs.Common.{range_with_len, term_events, times, Took}
use Rattle.rota_items.proofs.sums.emit_range.Given as goal

abbrev pub invariant-loop-i : goal.invariant-loop-i
invariant-loop-i g l = Took g.T.Taker (term_events (times l.fn.coefficient (range_with_len l.fn.first l.i))) l.fn.taker l.taker
