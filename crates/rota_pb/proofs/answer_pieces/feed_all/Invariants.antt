use Rattle.std.proofs.Common.{◌≡◌}
use Rattle.rota_pb.specs.Feeding.{HasTaken}
use Rattle.rota_pb.proofs.answer_pieces.feed_all.Given as goal

abbrev pub invariant-loop : goal.invariant-loop
invariant-loop g l = record {
  taken : HasTaken (g.A.Source.left l.fn.source) (g.A.Source.left l.source) l.fn.answer l.answer l.counter;
  sound : g.A.Source.has_failed l.source ≡ g.A.Source.has_failed l.fn.source;
  unended : g.A.Source.has_ended l.source ≡ g.A.Source.has_ended l.fn.source;
}
