-- Words of the logic: how the texts that a sink takes one after another join, and their prefixes.
use Rattle.std.proofs.Common.{◌≡◌, ℕ, Bool, true, false, ◌||◌, refl, sym, ap, ◌∙◌, subst, append_assoc}
use Rattle.std.proofs.Common.{List, [], ◌++◌, length, take, drop, None, Some, Ok, Err}
use Rattle.std.specs.Prelude.{Result, is_err, MatchResult, IsErr}
use Rattle.std.specs.Io.KnownBytes.{append_known}
use Rattle.std.proofs.lemmas.List.{append-nil, take-append-drop}
use Rattle.byte_ports.specs.Ports.{KnownBytes, Begins}
use Rattle.byte_ports.specs.declared.ports.PortFault.{PortFault}
use Rattle.byte_ports.specs.declared.ports.Target.{Ghosts}
use Rattle.text_sink.specs.declared.sink.Sink.{Sink}
use Rattle.text_sink.specs.Sink.{FinishesSink, PutsText, bytes_put, sink_failed, sent_before, sent_by, target_of}
use Rattle.text_sink.specs.KnownFront.{known_front}

pub append_known-nil : (known : KnownBytes) → append_known known [] ≡ known
append_known-nil None = refl
append_known-nil (Some bytes) = ap Some (append-nil bytes)

pub append_known-append : (known : KnownBytes) (xs ys : List ℕ) → append_known (append_known known xs) ys ≡ append_known known (xs ++ ys)
append_known-append None xs ys = refl
append_known-append (Some ws) xs ys = ap Some (append_assoc ws xs ys)

-- a prefix of a text is a prefix of a longer text
pub Begins-longer : (part known : KnownBytes) (xs ys : List ℕ) → Begins part (append_known known xs) →
    Begins part (append_known known (xs ++ ys))
Begins-longer part known xs ys begins = record {
  rest = begins.rest ++ ys;
  joined =
      sym (append_known-append part begins.rest ys)
      ∙ ap (λ known. append_known known ys) begins.joined
      ∙ append_known-append known xs ys;
}

-- ---- bytes that are at the front of others

-- they are at the front of others that grow
pub begins_grown : (part known new : KnownBytes) (bytes : List ℕ) → Begins part known → new ≡ append_known known bytes → Begins part new
begins_grown part known new bytes begins grown = record {
  rest = begins.rest ++ bytes;
  joined = sym (append_known-append part begins.rest bytes) ∙ ap (λ whole. append_known whole bytes) begins.joined ∙ sym grown;
}

begins_front : (part whole : KnownBytes) → known_front part whole ≡ part → Begins part whole
begins_front None whole same = record { rest = []; joined = sym same }
begins_front (Some part) None same = cc
begins_front (Some part) (Some whole) same =
    let front : take (length part) whole ≡ part = cc in
    record {
      rest = drop (length part) whole;
      joined = ap (λ bytes. Some (bytes ++ drop (length part) whole)) (sym front) ∙ ap Some (take-append-drop (length part) whole);
    }

-- ---- the texts that a sink takes

pub or_false : (b : Bool) → b || false ≡ b
or_false true = refl
or_false false = refl

pub or_true : (b : Bool) → b || true ≡ true
or_true true = refl
or_true false = refl

module _ {W : Type 0} {target : Ghosts W} where
  -- the same text, written differently
  pub puts_same : {old new : Sink W target} {r : Result (Unit {0}) PortFault} {xs ys : List ℕ} → xs ≡ ys →
      PutsText old r ys new → PutsText old r xs new
  puts_same {old} {new} {r} same takes = subst (λ (text : List ℕ). PutsText old r text new) (sym same) takes

  -- a text that could not be written is a prefix of a longer one that could not be written
  pub puts_stop : {old new : Sink W target} {e d : PortFault} {xs : List ℕ} (ys : List ℕ) → PutsText old (Err e) xs new →
      PutsText old (Err d) (xs ++ ys) new
  puts_stop {old} {new} {e} {d} {xs} ys takes = record {
    same_target = takes.same_target;
    same_before = takes.same_before;
    failure = takes.failure;
    target_failure = takes.target_failure;
    silent = takes.silent;
    bytes = Begins-longer _ _ xs ys takes.bytes;
  }

  -- a text that was written, and then another
  pub puts_then : {old middle new : Sink W target} {u : Unit {0}} {r : Result (Unit {0}) PortFault} {xs ys : List ℕ} →
      PutsText old (Ok u) xs middle → PutsText middle r ys new → PutsText old r (xs ++ ys) new
  puts_then {old} {middle} {new} {u} {r} {xs} {ys} first second = record {
    same_target = second.same_target ∙ first.same_target;
    same_before = second.same_before ∙ first.same_before;
    failure = second.failure ∙ ap (λ b. b || is_err r) (first.failure ∙ or_false (sink_failed old));
    target_failure =
        second.target_failure ∙ ap (λ b. b || is_err r) (first.target_failure ∙ or_false (target.has_failed (target_of old)));
    silent = λ failed.
        let middle_failed : sink_failed middle ≡ true = first.failure ∙ or_false (sink_failed old) ∙ failed in
        second.silent middle_failed ∙ first.silent failed;
    bytes =
        let P : KnownBytes → Type 0 = λ known. MatchResult r (λ _. bytes_put new ≡ known) (λ _. Begins (sent_by new) known) in
        subst P (ap (λ known. append_known known ys) first.bytes ∙ append_known-append (bytes_put old) xs ys) second.bytes;
  }

  -- a sink keeps the bytes that were sent before it was made
  pub keeps_sent : (known : KnownBytes) (sink : Sink W target) → sent_before sink ≡ known → Begins known (sent_by sink)
  keeps_sent known sink same =
      begins_front known (sent_by sink) (subst (λ part. known_front part (sent_by sink) ≡ part) same sink.keeps_sent)

  -- a sink that failed accepts nothing more
  pub puts_none : (sink : Sink W target) (e : PortFault) (xs : List ℕ) → sink_failed sink ≡ true → PutsText sink (Err e) xs sink
  puts_none sink e xs failed = record {
    same_target = refl;
    same_before = refl;
    failure = failed ∙ sym (or_true (sink_failed sink));
    target_failure = sink.fails_with_target failed ∙ sym (or_true (target.has_failed (target_of sink)));
    silent = λ _. refl;
    bytes = record { rest = sink.buffer ++ xs; joined = sym (append_known-append (sent_by sink) sink.buffer xs) };
  }

  -- the exit of a `?`: another error of the same text
  pub puts_exit : {old new : Sink W target} {e : PortFault} {xs : List ℕ} (r : Result (Unit {0}) PortFault) → IsErr r →
      PutsText old (Err e) xs new → PutsText old r xs new
  puts_exit {old} {new} {e} {xs} (Err d) failed takes = record {
    same_target = takes.same_target;
    same_before = takes.same_before;
    failure = takes.failure;
    target_failure = takes.target_failure;
    silent = takes.silent;
    bytes = takes.bytes;
  }
  puts_exit {old} {new} {e} {xs} (Ok u) failed takes = cc

  -- a text that was written, and then another with which the sink was finished
  pub puts_finish : {old middle new : Sink W target} {u : Unit {0}} {r : Result (Unit {0}) PortFault} {text xs ys : List ℕ} →
      text ≡ xs ++ ys → PutsText old (Ok u) xs middle → FinishesSink middle r ys new → FinishesSink old r text new
  puts_finish {old} {middle} {new} {u} {r} {text} {xs} {ys} same first last = record {
    takes = puts_same same (puts_then first last.takes);
    sent = last.sent;
    flushed = last.flushed;
    for_good = λ failed. last.for_good (first.failure ∙ or_false (sink_failed old) ∙ failed);
    target_for_good = λ failed. last.target_for_good (first.target_failure ∙ or_false (target.has_failed (target_of old)) ∙ failed);
  }

  -- a text that could not be written before the sink was finished
  pub finish_exit : {old new : Sink W target} {e : PortFault} {xs : List ℕ} (r : Result (Unit {0}) PortFault) → IsErr r →
      PutsText old (Err e) xs new → FinishesSink old r xs new
  finish_exit (Err d) failed takes = record {
    takes = puts_exit (Err d) failed takes;
    sent = tt;
    flushed = tt;
    for_good = λ _. failed;
    target_for_good = λ _. failed;
  }
  finish_exit (Ok u) failed takes = cc
