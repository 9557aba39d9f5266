-- The abstract value of a taker that writes a text into a sink for each event: of rows, or anything else that it takes one by one.
use Rattle.std.specs.Prelude.{◌≡◌, ℕ, Bool, true, if◌then◌else◌, Option, Some, None, List, [], ◌∷◌, ◌++◌}
use Rattle.std.specs.Io.KnownBytes.{append_known}
use Rattle.byte_ports.specs.Ports.{KnownBytes, Begins}
use Rattle.byte_ports.specs.declared.ports.PortFault.{PortFault}
use Rattle.byte_ports.specs.declared.ports.Target.{Ghosts}
use Rattle.rota_items.specs.Events.{Event}
use Rattle.rota_items.specs.declared.takers.Taker.{Ghosts as TakerGhosts}
use Rattle.text_sink.specs.Sink.{bytes_put, sent_before, sent_by, sink_failed, target_name, target_of}
use Rattle.text_sink.specs.declared.sink.Sink.{Sink}

-- the text of each event, with a state that is kept from one event to the next
pub record EventTexts (E Kept : Type 0) : Type 0 where
  pub text : Kept → E → List ℕ
  pub after : Kept → E → Kept

-- the texts of the events, joined
abbrev pub joined_texts : {E Kept : Type 0} → EventTexts E Kept → Kept → List E → List ℕ
joined_texts texts kept [] = []
joined_texts texts kept (event ∷ events) = texts.text kept event ++ joined_texts texts (texts.after kept event) events

-- the bytes so far, the target that they go to, and the kept state
pub record SinkState (W Kept : Type 0) : Type 0 where
  pub target_name : ℕ
  -- the bytes that were sent before the sink was made
  pub sent_before : KnownBytes
  pub bytes : KnownBytes
  pub kept : Kept
  pub has_failed : Bool
  pub target_has_failed : Bool
  -- the target that a failed sink left
  pub left_target : Option W

-- the state after the text of the event is written
abbrev pub with_event : {W E Kept : Type 0} → EventTexts E Kept → SinkState W Kept → E → SinkState W Kept
with_event texts state event = record state {
  bytes = append_known state.bytes (texts.text state.kept event);
  kept = texts.after state.kept event;
}

module _ {W Kept : Type 0} {target : Ghosts W} where
  -- the text that was written into the sink, and the kept state
  abbrev pub sink_state : Sink W target → Kept → SinkState W Kept
  sink_state sink kept = record {
    target_name = target_name sink;
    sent_before = sent_before sink;
    bytes = bytes_put sink;
    kept = kept;
    has_failed = sink_failed sink;
    target_has_failed = target.has_failed (target_of sink);
    left_target = (if sink_failed sink then Some (target_of sink) else None);
  }

  -- the state after a failure at the event: the sink and its target failed, and the bytes that were sent are a prefix of the text
  -- followed by the text of the event; a sink that had failed before left its target unchanged
  pub record FailedAt {E : Type 0} (texts : EventTexts E Kept) (before : SinkState W Kept) (event : E) (sink : Sink W target) : Type 0 where
    pub same_target : target_name sink ≡ before.target_name
    pub same_before : sent_before sink ≡ before.sent_before
    pub failed : sink_failed sink ≡ true
    pub target_failed : target.has_failed (target_of sink) ≡ true
    pub begins : Begins (sent_by sink) (append_known before.bytes (texts.text before.kept event))
    pub silent : (old : W) → before.left_target ≡ Some old → target_of sink ≡ old

  -- the value of a taker of rows that has a sink and keeps a state, its step and the state after a failure
  abbrev pub sink_taker : {Self : Type 0} → (Self → Sink W target) → (Self → Kept) → EventTexts Event Kept → TakerGhosts Self PortFault
  sink_taker sink_of kept_of texts = record {
    Value = SinkState W Kept;
    value = λ taker. sink_state (sink_of taker) (kept_of taker);
    step = with_event texts;
    left = λ before event taker. FailedAt texts before event (sink_of taker);
  }
