use Rattle.std.proofs.Common.{refl, rules, arith, length-take, ◌∙◌}
use Rattle.std.proofs.lemmas.Result.{err_from_is_err_and}
use Rattle.text_sink.proofs.LogicWords.{or_false}
use Rattle.rota_pb.specs.RunPorts.{reader_of}
use Rattle.rota_pb.proofs.Feeding.{taken_nothing, taken_more, fault_taken}
use Rattle.rota_pb.proofs.answer_pieces.feed_all.Goals as goal

pub loop-init : goal.loop-init
loop-init g c = record { taken = taken_nothing _ _; sound = refl; unended = refl }

pub loop-preserved : goal.loop-preserved
loop-preserved g c = record {
  taken =
      taken_more _ _ _ _ _ _ _ _ _ c.loop.invariant.taken c.in-Ok.ensures.bytes.0
      (λ variables text leads. c.in_ok-feed.ensures.checked variables text leads) _ refl
      (omega (arith, length-take c.in-Ok.count c.read.new.buffer, c.in-Ok.ensures.bound))
      (λ variables text leads. c.in_ok-feed.ensures.leads variables text leads);
  sound = c.in-Ok.ensures.failure ∙ or_false _ ∙ c.loop.invariant.sound;
  unended = search rules;
}

pub returns-in_err-feed-clause-fault : goal.returns-in_err-feed-clause-fault
returns-in_err-feed-clause-fault g c =
    let p = err_from_is_err_and c.from_residual.result c.from_residual.ensures.1 in
    rw (p.1, p.2)
    (fault_taken _ _ _ _ _ c.feed.new.self _ _ _ c.loop.invariant.taken c.in-Ok.ensures.bytes.0
    (λ variables text leads. c.in_err-feed.ensures.checked variables text leads)
    (reader_of g.A.Source c.args.source.now c.read.new.self) _ refl refl refl
    (c.in-Ok.ensures.failure ∙ or_false _ ∙ c.loop.invariant.sound))
