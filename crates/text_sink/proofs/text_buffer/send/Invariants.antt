use Rattle.std.proofs.Common.{◌≡◌, length}
use Rattle.std.specs.Io.KnownBytes.{append_known}
use Rattle.byte_ports.specs.Ports.{Begins}
use Rattle.text_sink.proofs.text_buffer.send.Given as goal

abbrev pub invariant-loop-rest : goal.invariant-loop-rest
invariant-loop-rest g l = record {
  bytes : append_known (g.W.Target.sent l.target) l.rest ≡ append_known (g.W.Target.sent l.initial.target) l.piece;
  kept : Begins (g.W.Target.sent l.initial.target) (g.W.Target.sent l.target);
  failure : g.W.Target.has_failed l.target ≡ g.W.Target.has_failed l.initial.target;
}

abbrev pub decreases-loop-rest : goal.decreases-loop-rest
decreases-loop-rest g l = length l.rest
