use Rattle.std.proofs.Common.{◌≡◌, ℕ, ◌+◌, ◌^◌, ◌<◌, length, sym, ap, ◌∙◌, arith}
use Rattle.std.proofs.lemmas.Result.{MatchResult-weaker}
use Rattle.rota_core.specs.InstanceTables.{problem_of}
use Rattle.rota_core.specs.RosterTables.{set_of}
use Rattle.rota_judge.specs.ExtensionTruths.{extension_truths}
use Rattle.text_sink.proofs.LogicWords.{puts_same}
use Rattle.opb_text.proofs.TakenEvents.{events_put_text, took_events_keep}
use Rattle.solver_text.specs.AnswerWriter.{literals_text, writer_sink}
use Rattle.rota_pb.specs.ExtensionAnswer.{WriterState, answer_writer, literal_texts, writer_state_of}
use Rattle.rota_pb.proofs.ExtensionAnswer.{literals-counted, literals-joined, sink-takes, writer-stays}
use Rattle.rota_pb.proofs.extension_answer.take_extension.Goals as goal

pub returns : goal.returns
returns g c =
    let problem = problem_of c.args.instance.now in
    let truths = extension_truths problem (set_of c.args.roster.now) in
    let old = c.args.answer.now in
    let new = c.drive_extension.new.taker in
    let result = c.drive_extension.result in
    let few : (writer_state_of old).literals + length truths < 2 ^ 32 =
    omega (
      arith,
      c.requires.none,
      c.extension_truths_are_those_of_the_variables.ensures.count problem (set_of c.args.roster.now),
      c.variables_are_few.ensures problem (c.instances_are_within_limits.ensures c.args.instance.now c.drive_extension.ensures.limits),
    ) in
    let all : (writer_state_of old).literals + length truths ≡ length truths = omega (arith, c.requires.none) in
    let sunk = sink-takes old new truths result c.drive_extension.ensures.takes in
    record {
      same_writer = writer-stays old new truths result c.drive_extension.ensures.takes;
      takes =
          puts_same (sym (literals-joined (writer_state_of old) truths few ∙ ap (λ (n : ℕ). literals_text n truths) c.requires.none))
          (events_put_text (λ answer. writer_sink (answer_writer answer)) writer_state_of literal_texts old new truths result sunk);
      literals =
          MatchResult-weaker result sunk
          (λ u took.
          ap (λ (p : WriterState). p.literals) (took_events_keep (λ answer. writer_sink (answer_writer answer)) writer_state_of literal_texts truths took) ∙
          literals-counted (writer_state_of old) truths few ∙ all)
          (λ fault refused. tt);
    }
