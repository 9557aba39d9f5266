use Rattle.std.proofs.Common.{Ok, take}
use Rattle.text_sink.specs.Pieces.{pieces_text}
use Rattle.text_sink.specs.Sink.{PutsText}
use Rattle.text_sink.proofs.sink.Sink.put_all.Given as goal

abbrev pub invariant-loop-index : goal.invariant-loop-index
invariant-loop-index g l =
    let w = l.fn in
    PutsText w.self (Ok tt) (pieces_text (take l.index w.pieces)) l.self
