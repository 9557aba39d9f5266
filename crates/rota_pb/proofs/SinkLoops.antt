-- Texts written into a sink by a loop.
use Rattle.std.proofs.Common.{◌≡◌, ℕ, ◌+◌, ◌<◌, List, [], ◌++◌, Result, Ok, Err, refl, sym}
use Rattle.std.specs.Prelude.{IsErr}
use Rattle.byte_ports.specs.declared.ports.PortFault.{PortFault}
use Rattle.byte_ports.specs.declared.ports.Target.{Ghosts}
use Rattle.rota_core.specs.Lists.{concat_below}
use Rattle.text_sink.specs.declared.sink.Sink.{Sink}
use Rattle.text_sink.specs.Sink.{PutsText, bytes_put, sink_failed, target_of}
use Rattle.text_sink.proofs.LogicWords.{append_known-nil, or_false, puts_exit, puts_stop, puts_then}
use Rattle.rota_core.proofs.LogicWords.{concat_below-zero, concat_below-more, in_turn}

-- a text made of a list, element by element
pub record Joins {A : Type 0} (text : List A → List ℕ) : Type 0 where
  pub none : text [] ≡ []
  pub append : (xs ys : List A) → text (xs ++ ys) ≡ text xs ++ text ys

pub bytes_join : Joins (λ (bytes : List ℕ). bytes)
bytes_join = record { none = refl; append = λ xs ys. refl }

module _ {W : Type 0} {target : Ghosts W} where
  -- nothing is written
  pub puts_nothing : (sink : Sink W target) → PutsText sink (Ok tt) [] sink
  puts_nothing sink = record {
    same_target = refl;
    same_before = refl;
    failure = sym (or_false (sink_failed sink));
    target_failure = sym (or_false (target.has_failed (target_of sink)));
    silent = λ _. refl;
    bytes = sym (append_known-nil (bytes_put sink));
  }

  module _ {A : Type 0} {text : List A → List ℕ} (joins : Joins text) where
    pub loop_none : (f : ℕ → List A) (sink : Sink W target) → PutsText sink (Ok tt) (text (concat_below 0 f)) sink
    loop_none f sink = rw (concat_below-zero f, joins.none) (puts_nothing sink)

    pub loop_more : (i : ℕ) (f : ℕ → List A) {old middle new : Sink W target} {u : Unit {0}} {r : Result (Unit {0}) PortFault} →
        PutsText old (Ok u) (text (concat_below i f)) middle → PutsText middle r (text (f i)) new → PutsText old r (text (concat_below (i + 1) f)) new
    loop_more i f first second = rw (concat_below-more i f, joins.append) (puts_then first second)

    pub loop_all : (i n : ℕ) (f : ℕ → List A) {old new : Sink W target} {r : Result (Unit {0}) PortFault} → i ≡ n →
        PutsText old r (text (concat_below i f)) new → PutsText old r (text (concat_below n f)) new
    loop_all i n f same takes = rw (← same) takes

    pub loop_exit : (i n : ℕ) (f : ℕ → List A) {old middle new : Sink W target} {u : Unit {0}} {e : PortFault} (r : Result (Unit {0}) PortFault) →
        IsErr r → i < n → PutsText old (Ok u) (text (concat_below i f)) middle → PutsText middle (Err e) (text (f i)) new →
        PutsText old r (text (concat_below n f)) new
    loop_exit i n f {old} {middle} {new} {u} {e} r failed below first second =
        puts_exit r failed
        (in_turn (λ xs. PutsText old (Err e) (text xs) new) (λ xs ys puts. rw joins.append (puts_stop (text ys) puts)) i n f below
        (rw joins.append (puts_then first second)))
