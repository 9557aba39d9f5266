-- The abstract value of a sink, and the effects of writing a text into it and of finishing it.
use Rattle.std.specs.Prelude.{◌≡◌, ℕ, List, Bool, true, ◌||◌, Result, is_err, IsErr, MatchResult, OnOk}
use Rattle.std.specs.Io.KnownBytes.{append_known}
use Rattle.std.specs.Mem.{manually_drop_value}
use Rattle.byte_ports.specs.Ports.{KnownBytes, known_len, Begins}
use Rattle.byte_ports.specs.declared.ports.PortFault.{PortFault}
use Rattle.byte_ports.specs.declared.ports.Target.{Ghosts}
use Rattle.text_sink.specs.declared.sink.Sink.{Sink}

module _ {W : Type 0} {target : Ghosts W} where
  -- the target that the sink writes to
  abbrev pub target_of : Sink W target → W
  target_of sink = sink.target.now

  -- the name of that target
  abbrev pub target_name : Sink W target → ℕ
  target_name sink = sink.target.ghost_name

  -- the sink failed
  abbrev pub sink_failed : Sink W target → Bool
  sink_failed sink = sink.failed

  -- the bytes that were sent
  abbrev pub sent_by : Sink W target → KnownBytes
  sent_by sink = target.sent sink.target.now

  -- the bytes that were sent before the sink was made. They are still sent: the sink's field `keeps_sent` says so.
  abbrev pub sent_before : Sink W target → KnownBytes
  sent_before sink = target.sent (manually_drop_value sink.before).value

  -- the bytes that were sent, and then the bytes in the buffer
  abbrev pub bytes_put : Sink W target → KnownBytes
  bytes_put sink = append_known (sent_by sink) sink.buffer

  -- new is old with the text written into it. If it fails, the target failed, and the bytes that were sent are a prefix of the bytes put
  -- before with the text after them. A sink that had failed leaves its target unchanged.
  pub record PutsText (old : Sink W target) (result : Result (Unit {0}) PortFault) (text : List ℕ) (new : Sink W target) : Type 0 where
    pub same_target : new.target.ghost_name ≡ old.target.ghost_name
    pub same_before : sent_before new ≡ sent_before old
    pub failure : sink_failed new ≡ (sink_failed old || is_err result)
    pub target_failure : target.has_failed (target_of new) ≡ (target.has_failed (target_of old) || is_err result)
    pub silent : sink_failed old ≡ true → target_of new ≡ target_of old
    pub bytes : MatchResult result
        (λ _. bytes_put new ≡ append_known (bytes_put old) text)
        (λ _. Begins (sent_by new) (append_known (bytes_put old) text))

  -- new is old with the text written into it, and finished: if it returns `Ok`, everything that was written is sent and flushed. If the
  -- sink or its target had failed, it returns an error.
  pub record FinishesSink (old : Sink W target) (result : Result (Unit {0}) PortFault) (text : List ℕ) (new : Sink W target) : Type 0 where
    pub takes : PutsText old result text new
    pub sent : OnOk result (sent_by new ≡ bytes_put new)
    pub flushed : OnOk result (target.flushed (target_of new) ≡ known_len (sent_by new))
    pub for_good : sink_failed old ≡ true → IsErr result
    pub target_for_good : target.has_failed (target_of old) ≡ true → IsErr result
