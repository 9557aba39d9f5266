-- A fault stays, whatever bytes follow.
use Rattle.std.proofs.Common.{◌≡◌, ℕ, ◌<◌, ◌^◌, List, ◌++◌, Result, Ok, Err, ap, ◌∙◌, arith}
use Rattle.solver_text.specs.Answers.{AnswerState, and_then, at_end, checked_within, fault_within}
use Rattle.solver_text.specs.LineStates.{LineState, take_bytes, end_line}
use Rattle.solver_text.specs.States.{state_after, line_state_in}
use Rattle.solver_text.specs.Lines.{lines}
use Rattle.solver_text.specs.AnswerLaws.{FaultStays}
use Rattle.solver_text.specs.declared.outcome.AnswerFault.{AnswerFault}
use Rattle.solver_text.proofs.TextLaws.{state_after-append, outcome-state}
use Rattle.solver_text.proofs.ReadLaws.{fault_within-state}

abbrev drop_known : Result AnswerState AnswerFault → Result (Unit {0}) AnswerFault
drop_known result = and_then result (λ known. Ok tt)

at_fault : (result : Result AnswerState AnswerFault) (fault : AnswerFault) → drop_known result ≡ Err fault → result ≡ Err fault
at_fault (Ok known) fault e = cc
at_fault (Err other) fault e = cc

abbrev with_index : LineState → Result AnswerState AnswerFault → Result (AnswerState × LineState) AnswerFault
with_index kept result = and_then result (λ known. Ok (known, kept))

state-fault : (variables : ℕ) (text : List ℕ) (fault : AnswerFault) → fault_within variables text ≡ Err fault →
    state_after variables text ≡ Err fault
state-fault variables text fault e =
    ap (with_index (line_state_in (lines text).open_part)) (at_fault (checked_within variables text) fault e)

later-fault : (variables : ℕ) (text more : List ℕ) (fault : AnswerFault) → variables < 2 ^ 32 →
    fault_within variables text ≡ Err fault → state_after variables (text ++ more) ≡ Err fault
later-fault variables text more fault few e =
    state_after-append variables text more (omega arith)
    ∙ ap (λ (s : Result (AnswerState × LineState) AnswerFault). and_then s (λ x. take_bytes x.0 x.1 more)) (state-fault variables text fault e)

pub fault-stays : FaultStays
fault-stays = record {
  within = λ variables text more fault few e. fault_within-state variables (text ++ more) (Err fault)
      (later-fault variables text more fault few e);
  whole = λ variables text more fault few e.
      outcome-state variables (text ++ more) (omega arith)
      ∙ ap (λ (s : Result (AnswerState × LineState) AnswerFault). and_then s (λ x. and_then (end_line x.0 x.1.line x.1.word) at_end))
      (later-fault variables text more fault few e);
}
