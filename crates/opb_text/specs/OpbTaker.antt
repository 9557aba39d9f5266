-- The abstract value of the taker that writes rows as text.
use Rattle.std.specs.Prelude.{◌≡◌, Bool, Result, MatchResult}
use Rattle.byte_ports.specs.declared.ports.PortFault.{PortFault}
use Rattle.byte_ports.specs.declared.ports.Target.{Ghosts}
use Rattle.rota_items.specs.Events.{Event}
use Rattle.rota_items.specs.declared.takers.Taker.{Ghosts as TakerGhosts}
use Rattle.opb_text.specs.EventText.{opb_texts}
use Rattle.opb_text.specs.SinkTaker.{sink_taker}
use Rattle.text_sink.specs.declared.sink.Sink.{Sink}
use Rattle.opb_text.specs.declared.opb_taker.OpbTaker.{OpbTaker}

module _ {W : Type 0} {target : Ghosts W} where
  -- the sink that the text goes to
  abbrev pub taker_sink : OpbTaker W target → Sink W target
  taker_sink taker = taker.sink

  -- the open row is the objective's
  abbrev pub in_objective : OpbTaker W target → Bool
  in_objective taker = taker.in_objective

  -- the taker's value, its step and the state after a failure
  abbrev pub opb_taker : TakerGhosts (OpbTaker W target) PortFault
  opb_taker = sink_taker taker_sink in_objective opb_texts

  -- the taker took the event, or refused it
  abbrev pub TakesEvent : Event → OpbTaker W target → OpbTaker W target → Result (Unit {0}) PortFault → Type 0
  TakesEvent event old new result = MatchResult result
      (λ _. opb_taker.value new ≡ opb_taker.step (opb_taker.value old) event)
      (λ _. opb_taker.left (opb_taker.value old) event new)
