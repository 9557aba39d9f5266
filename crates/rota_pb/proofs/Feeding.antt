-- The pieces of an answer, joined.
use Rattle.std.proofs.Common.{◌≡◌, ℕ, ◌+◌, ◌<◌, refl, sym, ap, ◌∙◌, subst, arith, append_assoc}
use Rattle.std.proofs.Common.{List, [], ◌++◌, length, length-append, Result, Ok, Err, None, Some}
use Rattle.std.specs.Io.KnownBytes.{prepend_known, IsAtEnd}
use Rattle.std.proofs.lemmas.List.{append-nil}
use Rattle.byte_ports.specs.Ports.{KnownBytes}
use Rattle.solver_text.specs.declared.answer.Answer.{Answer as AnswerState}
use Rattle.solver_text.specs.declared.outcome.AnswerFault.{AnswerFault}
use Rattle.solver_text.specs.declared.outcome.Solved.{Solved}
use Rattle.solver_text.specs.Answers.{check_all, outcome, fault_within}
use Rattle.solver_text.specs.Lines.{cut}
use Rattle.solver_text.specs.States.{LeadsTo}
use Rattle.solver_text.specs.AnswerLaws.{FaultStays}
use Rattle.rota_pb.specs.declared.fault.Fault.{Fault}
use Rattle.rota_pb.specs.declared.fault.Fault.TheVariants.{Read, Answer}
use Rattle.rota_pb.specs.AnswerPieces.{FailsAnswer, IsSolved}
use Rattle.rota_pb.specs.Feeding.{HasTaken, HasTakenAll, FaultTaken, StopsTaking}
use Rattle.rota_pb.specs.RunPorts.{IfKnown, IsEnded, IsTaken, Reader}
use Rattle.rota_pb.proofs.WholeFiles.{known_are}

pub prepend_known-append : (xs ys : List ℕ) (known : KnownBytes) → prepend_known (xs ++ ys) known ≡ prepend_known xs (prepend_known ys known)
prepend_known-append xs ys None = refl
prepend_known-append xs ys (Some bytes) = ap Some (append_assoc xs ys bytes)

prepend_known-nil : (known : KnownBytes) → known ≡ prepend_known [] known
prepend_known-nil None = refl
prepend_known-nil (Some bytes) = refl

no_fault_yet : (variables : ℕ) → fault_within variables [] ≡ Ok tt
unfolding check_all cut
no_fault_yet variables = refl

-- nothing has been taken yet
pub taken_nothing : (given : KnownBytes) (answer : AnswerState) → HasTaken given given answer answer 0
taken_nothing given answer = record {
  taken = [];
  front = prepend_known-nil given;
  leads = λ variables leads. leads;
  unjudged = λ variables leads. no_fault_yet variables;
  long = omega arith;
}

module _ (given before left : KnownBytes) (old middle new : AnswerState) (pieces : ℕ) (piece : List ℕ)
    (result : Result (Unit {0}) AnswerFault) (so_far : HasTaken given before old middle pieces)
    (next : before ≡ prepend_known piece left)
    (judged : (variables : ℕ) (text : List ℕ) → LeadsTo variables text middle → result ≡ fault_within variables (text ++ piece)) where
  front-more : given ≡ prepend_known (so_far.taken ++ piece) left
  front-more =
      so_far.front ∙ ap (λ (known : KnownBytes). prepend_known so_far.taken known) next ∙ sym (prepend_known-append so_far.taken piece left)

  -- one more piece was taken
  pub taken_more : (u : Unit {0}) → result ≡ Ok u → 0 < length piece →
      ((variables : ℕ) (text : List ℕ) → LeadsTo variables text middle → LeadsTo variables (text ++ piece) new) →
      HasTaken given left old new (pieces + 1)
  taken_more u is some leads = record {
    taken = so_far.taken ++ piece;
    front = front-more;
    leads = λ variables from. leads variables so_far.taken (so_far.leads variables from);
    unjudged = λ variables from. sym (judged variables so_far.taken (so_far.leads variables from)) ∙ is;
    long = let before = so_far.long in omega (arith, before, some, length-append so_far.taken piece);
  }

  -- a fault was found in one more piece
  pub fault_taken : (reader : Reader) (fault : AnswerFault) → result ≡ Err fault →
      reader.port.left reader.old ≡ given → reader.port.left reader.new ≡ left →
      reader.port.has_failed reader.new ≡ reader.port.has_failed reader.old → FaultTaken reader old fault
  fault_taken reader fault is given_is left_is sound = record {
    taken = so_far.taken ++ piece;
    took = record {
      front = given_is ∙ front-more ∙ ap (λ (known : KnownBytes). prepend_known (so_far.taken ++ piece) known) (sym left_is);
      sound = sound;
    };
    judged = λ variables from. sym (judged variables so_far.taken (so_far.leads variables from)) ∙ is;
  }

-- ---- the answer that the pieces give

-- the bytes that were taken up to the end are all bytes
all_taken : (reader : Reader) (taken : List ℕ) → IsTaken reader taken → IsEnded reader → IfKnown reader (λ bytes. taken ≡ bytes)
all_taken reader taken took at_end bytes known =
    let parts : (rest : List ℕ) × (reader.port.left reader.new ≡ Some rest) × (taken ++ rest ≡ bytes) =
    known_are (reader.port.left reader.old) (reader.port.left reader.new) taken bytes took.front known in
    let none : parts.0 ≡ [] = subst IsAtEnd parts.1 at_end.none_left in
    sym (append-nil taken) ∙ ap (λ (rest : List ℕ). taken ++ rest) (sym none) ∙ parts.2

module _ (variables : ℕ) (reader : Reader) (old : AnswerState) (from : LeadsTo variables [] old) where
  -- the reason why not all bytes were taken is the reason why the answer is refused
  pub fails_answer : FaultStays → (fault : Fault) → StopsTaking reader old fault → FailsAnswer variables reader fault
  fails_answer stays (Answer fault) stops = record {
    means = λ bytes known.
        let parts : (rest : List ℕ) × (reader.port.left reader.new ≡ Some rest) × (stops.taken ++ rest ≡ bytes) =
        known_are (reader.port.left reader.old) (reader.port.left reader.new) stops.taken bytes stops.took.front known in
        subst (λ (text : List ℕ). outcome variables text ≡ Err fault) parts.2
        (stays.whole variables stops.taken parts.0 fault from.few (stops.judged variables from));
    sound = stops.took.sound;
  }
  fails_answer stays Read stops = (stops.taken, stops.unjudged variables from, stops.no_end)
  fails_answer stays _ stops = absurd stops

  module _ (new : AnswerState) (all : HasTakenAll reader old new) where
    -- the fault at the end
    pub fails_at_end : (fault : AnswerFault) →
        ((text : List ℕ) → LeadsTo variables text new → outcome variables text ≡ Err fault) →
        FailsAnswer variables reader (Answer fault)
    fails_at_end fault ends = record {
      means = λ bytes known.
          subst (λ (text : List ℕ). outcome variables text ≡ Err fault) (all_taken reader all.taken all.took all.at_end bytes known)
          (ends all.taken (all.leads variables from));
      sound = all.took.sound;
    }

    pub is_solved : (solved : Solved) →
        ((text : List ℕ) → LeadsTo variables text new → outcome variables text ≡ Ok solved) →
        ((text : List ℕ) → LeadsTo variables text new → length solved.bits ≡ variables) →
        IsSolved variables reader solved
    is_solved solved ends bits =
        let means : IfKnown reader (λ bytes. outcome variables bytes ≡ Ok solved) =
        λ bytes known.
        subst (λ (text : List ℕ). outcome variables text ≡ Ok solved)
        (all_taken reader all.taken all.took all.at_end bytes known) (ends all.taken (all.leads variables from)) in
        ((means, (all.taken, all.took, all.at_end)), bits all.taken (all.leads variables from))
