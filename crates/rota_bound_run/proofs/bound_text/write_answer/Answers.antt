use Rattle.std.proofs.Common.{rules, ◌∙◌}
use Rattle.text_sink.proofs.LogicWords.{keeps_sent}
use Rattle.rota_bound_run.proofs.bound_text.write_answer.Goals as goal

pub returns-in_err-map_err : goal.returns-in_err-map_err
returns-in_err-map_err g c =
    search (rules, keeps_sent _ c.put_answer.new.sink (c.put_answer.ensures.takes.same_before ∙ c.new-sink.ensures.before))

pub returns : goal.returns
returns g c =
    search (
      rules,
      keeps_sent _ c.finish.new.self
          (c.finish.ensures.finishes.takes.same_before ∙ c.put_answer.ensures.takes.same_before ∙ c.new-sink.ensures.before),
      c.finish.ensures.finishes.takes.same_target ∙ c.put_answer.ensures.takes.same_target ∙ c.new-sink.ensures.same_target,
    )
