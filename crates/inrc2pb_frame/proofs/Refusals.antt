-- Words that clap refuses, and words without a fault.
use Rattle.std.proofs.Common.{◌≡◌, ◌∙◌, inl, inr, ap, sym, refl, subst, true, List, [], Result, Ok, Err, IfErr, IsErrAnd}
use Rattle.clap.specs.Words.{App, HasKind, Text, fault_of, is_simple_and_free}
use Rattle.clap.specs.declared.error.Error.{Error}
use Rattle.inrc2pb_frame.specs.ErrorStops.{IsStopOf}
use Rattle.inrc2pb_frame.specs.Stops.{IsForMemoryOr, IsStopOfApp}
use Rattle.inrc2pb_frame.specs.declared.stop.Stop.{Stop}
use Rattle.inrc2pb_frame.specs.declared.stop.Stop.TheVariants as stopped

pub IsForMemoryOr-weaker : (P Q : Type 0) (stop : Stop) → (P → Q) → IsForMemoryOr P stop → IsForMemoryOr Q stop
IsForMemoryOr-weaker P Q (stopped.Shown text) f h = h
IsForMemoryOr-weaker P Q (stopped.Words text) f h = h
IsForMemoryOr-weaker P Q (stopped.Usage text) f h = f h
IsForMemoryOr-weaker P Q (stopped.Job fault) f h = h

-- `app` is the command, and `a` the same as a caller knows it
module _ (app : App) (misused : Type 0) where
  pub stop_without_fault : (words : List Text) (stop : Stop) → fault_of app words ≡ [] → IsForMemoryOr misused stop →
      IsStopOfApp app misused words stop
  stop_without_fault words (stopped.Shown text) none h = absurd h
  stop_without_fault words (stopped.Words text) none h = absurd h
  stop_without_fault words (stopped.Usage text) none h = (none, h)
  stop_without_fault words (stopped.Job fault) none h = h

  -- the reason why the program ends if clap refuses the words, for one of their faults or because memory ran out
  stop_for : (words : List Text) (error : Error) (stop : Stop) → HasKind (fault_of app words) error → IsStopOf error stop
      → IsStopOfApp app misused words stop
  stop_for words error stop h is =
      elim h [
        | inl memory ↦ subst (IsStopOfApp app misused words) (sym (is.1 memory)) refl
        | inr among ↦ elim is.2 [
          | inl refused ↦ subst (IsStopOfApp app misused words) (sym refused)
              (among, λ log. let both : stopped.Shown error ≡ stopped.Words error = sym (is.0 log) ∙ refused in cc)
          | inr rest ↦ elim rest [
            | inl log ↦ subst (IsStopOfApp app misused words) (sym (is.0 log)) (among, log)
            | inr memory ↦ subst (IsStopOfApp app misused words) (sym (is.1 memory)) refl
          ]
        ]
      ]

  pub refused : {J : Type 0} (a : App) (words : List Text) (e : Error) (r : Result J Stop) → a ≡ app → is_simple_and_free app ≡ true
      → (is_simple_and_free a ≡ true → HasKind (fault_of a words) e) → IsErrAnd r (IsStopOf e) → IfErr r (IsStopOfApp app misused words)
  refused a words e (Ok j) is simple kinds stops = absurd stops
  refused a words e (Err stop) is simple kinds stops =
      let kind = kinds (ap is_simple_and_free is ∙ simple) in
      stop_for words e stop (subst (λ (x : App). HasKind (fault_of x words) e) is kind) stops

-- words that are parsed have no fault
pub no_fault : (app a : App) (words : List Text) → a ≡ app → is_simple_and_free app ≡ true →
    (is_simple_and_free a ≡ true → fault_of a words ≡ []) → fault_of app words ≡ []
no_fault app a words is simple none = ap (λ x. fault_of x words) (sym is) ∙ none (ap is_simple_and_free is ∙ simple)
