use Rattle.std.proofs.Common.{rules, ◌∙◌}
use Rattle.text_sink.proofs.LogicWords.{keeps_sent}
use Rattle.rota_pb.proofs.written_solution.write_solution.Goals as goal

pub returns-in_err-map_err-clause-sends : goal.returns-in_err-map_err-clause-sends
returns-in_err-map_err-clause-sends g c =
    search (rules, keeps_sent _ c.put_solution.new.sink (c.put_solution.ensures.takes.same_before ∙ c.new-sink.ensures.before))

pub returns-clause-sends : goal.returns-clause-sends
returns-clause-sends g c =
    search (
      rules,
      keeps_sent _ c.finish.new.self
          (c.finish.ensures.finishes.takes.same_before ∙ c.put_solution.ensures.takes.same_before ∙ c.new-sink.ensures.before),
    )
