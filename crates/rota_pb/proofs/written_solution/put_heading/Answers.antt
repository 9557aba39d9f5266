use Rattle.std.proofs.Common.{◌∙◌}
use Rattle.text_sink.proofs.LogicWords.{puts_same}
use Rattle.rota_pb.proofs.SolutionPieces.{heading-pieces}
use Rattle.rota_pb.proofs.written_solution.put_heading.Goals as goal

pub returns-clause-takes : goal.returns-clause-takes
returns-clause-takes g c =
    puts_same (heading-pieces c.args.instance.now c.args.count)
    (rw (c.from.ensures ∙ c.week.ensures.week, c.scenario_name.ensures, c.from-2.ensures) at c.put_all.ensures.takes)

pub returns-clause-limits : goal.returns-clause-limits
returns-clause-limits g c = c.week.ensures.limits
