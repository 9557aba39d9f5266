use Rattle.std.proofs.Common.{refl, rules, ap, ◌∙◌}
use Rattle.text_sink.specs.Sink.{sent_before}
use Rattle.text_sink.proofs.LogicWords.{keeps_sent}
use Rattle.solver_text.specs.AnswerWriter.{writer_sink}
use Rattle.rota_pb.specs.Steps.{stopped, went_on}
use Rattle.rota_pb.proofs.extending.extend.Goals as goal

pub returns-in-Some : goal.returns-in-Some
returns-in-Some g c = stopped _ refl (rw (c.of_roster.ensures, c.in-Some.is) at c.verdict_of-verdict.ensures.model) (λ kept. refl)

pub returns : goal.returns
returns g c =
    let extends = rw (c.of_roster.ensures, c.in_default.is) at c.verdict_of-verdict.ensures.model in
    let kept =
    keeps_sent _ (writer_sink c.put_answer.new.writer)
    (c.put_answer.ensures.takes.same_before ∙ ap sent_before c.new-writer.ensures.sink ∙ c.new.ensures.before) in
    went_on tt extends.keeps (rw (← extends.objective) (search (rules, kept)))
