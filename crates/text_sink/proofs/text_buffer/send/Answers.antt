use Rattle.std.proofs.Common.{arith}
use Rattle.std.proofs.lemmas.Grind.{common_steps}
use Rattle.text_sink.proofs.LogicWords.{begins_grown}
use Rattle.text_sink.proofs.text_buffer.send.Goals as goal

pub loop-rest-preserved : goal.loop-rest-preserved
loop-rest-preserved g c = record {
  bytes = grind (arith, common_steps);
  kept = begins_grown _ _ _ _ c.loop-rest.invariant.kept c.in_ok-count.ensures.bytes;
  failure = grind (arith, common_steps);
}
