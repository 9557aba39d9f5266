use Rattle.std.proofs.Common.{ℕ, refl, ap}
use Rattle.std.proofs.lemmas.Result.{MatchResult-weaker}
use Rattle.opb_text.proofs.TakenEvents.{event_put}
use Rattle.rota_pb.specs.ExtensionAnswer.{literal_texts, writer_state_of}
use Rattle.rota_pb.proofs.ExtensionAnswer.{on_ok_any}
use Rattle.rota_pb.proofs.extension_answer.ExtensionAnswerLiteralTaker.literal.Goals as goal

pub returns : goal.returns
returns g c =
    MatchResult-weaker c.literal.result
    (event_put literal_texts (writer_state_of c.args.self.now) _ c.args.positive c.literal.result c.literal.ensures.takes
    (on_ok_any c.literal.result (ap (λ (n : ℕ). record (writer_state_of c.args.self.now) { literals = n }) c.literal.ensures.literals)))
    (λ _ put. put) (λ _ failed. record { same_writer = refl; failed = failed })
