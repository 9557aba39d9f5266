use Rattle.memchr.specs.Find.{Nowhere, Passes, is_byte}
use Rattle.solver_text.proofs.line_state.line_end.Given as goal

abbrev pub invariant-loop-k : goal.invariant-loop-k
invariant-loop-k l = Nowhere (Passes (is_byte 10) l.bytes) 0 l.k
