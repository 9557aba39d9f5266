use Rattle.std.proofs.Common.{rules, ap, ◌∙◌}
use Rattle.text_sink.specs.Sink.{sent_before}
use Rattle.text_sink.proofs.LogicWords.{keeps_sent}
use Rattle.opb_text.specs.OpbTaker.{taker_sink}
use Rattle.rota_pb.proofs.encoding.encode.Goals as goal

pub returns-in_err-map_err : goal.returns-in_err-map_err
returns-in_err-map_err g c =
    search (
      rules,
      keeps_sent _ (taker_sink c.put_model.new.taker)
          (c.put_model.ensures.takes.same_before ∙ ap sent_before c.new-taker.ensures.sink ∙ c.new.ensures.before),
    )

pub returns : goal.returns
returns g c =
    search (
      rules,
      keeps_sent _ (taker_sink c.finish.new.self)
          (c.finish.ensures.finishes.takes.same_before
          ∙ c.put_model.ensures.takes.same_before
          ∙ ap sent_before c.new-taker.ensures.sink
          ∙ c.new.ensures.before),
    )
