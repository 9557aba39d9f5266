-- The text that an answer writes when it takes literals one by one.
use Rattle.std.proofs.Common.{◌≡◌, ℕ, ◌+◌, ◌^◌, ◌<◌, Bool, List, [], ◌∷◌, ◌++◌, length, Result, Ok, Err, refl, ap, ◌∙◌, arith}
use Rattle.std.proofs.lemmas.Result.{MatchResult-weaker}
use Rattle.std.specs.Prelude.{OnOk}
use Rattle.std.specs.List.{fold}
use Rattle.byte_ports.specs.declared.ports.PortFault.{PortFault}
use Rattle.byte_ports.specs.declared.ports.Target.{Ghosts}
use Rattle.rota_items.specs.Takes.{TakesAll}
use Rattle.opb_text.specs.SinkTaker.{FailedAt, SinkState, joined_texts, with_event, sink_state}
use Rattle.solver_text.specs.AnswerWriter.{literal_text, literals_text, writer_sink}
use Rattle.rota_pb.specs.ExtensionAnswer.{FailsAt, WriterState, after_literal, answer_writer, literal_texts, writer_state_of}
use Rattle.rota_pb.specs.declared.extension_answer.ExtensionAnswer.{ExtensionAnswer}

-- ---- the first literals have their own numbers

one-more : (state : WriterState) (truth : Bool) (truths : List Bool) → state.literals + length (truth ∷ truths) < 2 ^ 32 →
    after_literal state truth ≡ record state { literals = state.literals + 1 }
one-more state truth truths few = ap (λ (n : ℕ). record state { literals = n }) (omega (arith, few))

pub literals-joined : (state : WriterState) (truths : List Bool) → state.literals + length truths < 2 ^ 32 →
    joined_texts literal_texts state truths ≡ literals_text state.literals truths
literals-joined state [] few = refl
literals-joined state (truth ∷ truths) few =
    ap (λ (p : WriterState). literal_text state.literals truth ++ joined_texts literal_texts p truths) (one-more state truth truths few) ∙
    ap (λ (text : List ℕ). literal_text state.literals truth ++ text)
    (literals-joined (record state { literals = state.literals + 1 }) truths (omega (arith, few)))

pub literals-counted : (state : WriterState) (truths : List Bool) → state.literals + length truths < 2 ^ 32 →
    (fold after_literal state truths).literals ≡ state.literals + length truths
literals-counted state [] few = omega arith
literals-counted state (truth ∷ truths) few =
    ap (λ (p : WriterState). (fold after_literal p truths).literals) (one-more state truth truths few) ∙
    (let next : (state.literals + 1) + length truths ≡ state.literals + length (truth ∷ truths) = omega arith in
    literals-counted (record state { literals = state.literals + 1 }) truths (omega (arith, few)) ∙ next)

pub on_ok_any : {T F P : Type 0} (r : Result T F) → P → OnOk r P
on_ok_any (Ok x) holds = holds
on_ok_any (Err e) holds = tt

-- ---- the same writer

same-writer : {W : Type 0} (before : SinkState W WriterState) (truths : List Bool) →
    (fold (with_event literal_texts) before truths).kept.writer ≡ before.kept.writer
same-writer before [] = refl
same-writer before (truth ∷ truths) = same-writer (with_event literal_texts before truth) truths

module _ {W : Type 0} {target : Ghosts W} (old new : ExtensionAnswer W target) (truths : List Bool) where
  abbrev value : ExtensionAnswer W target → SinkState W WriterState
  value answer = sink_state (writer_sink (answer_writer answer)) (writer_state_of answer)

  abbrev fails : SinkState W WriterState → Bool → ExtensionAnswer W target → Type 0
  fails before truth answer = FailsAt before truth answer

  abbrev failed : SinkState W WriterState → Bool → ExtensionAnswer W target → Type 0
  failed before truth answer = FailedAt literal_texts before truth (writer_sink (answer_writer answer))

  pub writer-stays : (r : Result (Unit {0}) PortFault) → TakesAll value (with_event literal_texts) fails truths old new r →
      new.writer.ghost_name ≡ old.writer.ghost_name
  writer-stays (Ok u) took = ap (λ (w : SinkState W WriterState). w.kept.writer) took.value_is ∙ same-writer (value old) truths
  writer-stays (Err e) refused = refused.leaves.same_writer ∙ same-writer (value old) refused.taken

  pub sink-takes : (r : Result (Unit {0}) PortFault) → TakesAll value (with_event literal_texts) fails truths old new r →
      TakesAll value (with_event literal_texts) failed truths old new r
  sink-takes r takes =
      MatchResult-weaker r takes (λ _ took. record { value_is = took.value_is })
      (λ _ refused. record {
        taken = refused.taken;
        event = refused.event;
        rest = refused.rest;
        are = refused.are;
        leaves = refused.leaves.failed;
      })
