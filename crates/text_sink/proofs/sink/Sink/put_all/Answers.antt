use Rattle.std.proofs.Common.{◌≡◌, ℕ, ◌+◌, ◌<◌, List, [], ◌∷◌, ◌++◌, Ok, Err, take, drop, length, get_or, sym, ap, ◌∙◌, subst, arith}
use Rattle.std.proofs.lemmas.List.{append-nil, take-append-drop, take_more}
use Rattle.std.proofs.lemmas.List.Concat.{flat_map-append}
use Rattle.text_sink.proofs.LogicWords.{puts_exit, puts_none, puts_stop, puts_then}
use Rattle.byte_ports.specs.declared.ports.PortFault.{PortFault}
use Rattle.byte_ports.specs.declared.ports.Target.{Ghosts}
use Rattle.text_sink.specs.Sink.{PutsText}
use Rattle.text_sink.specs.declared.sink.Sink.{Sink}
use Rattle.text_sink.specs.Pieces.{pieces_text, piece_text}
use Rattle.text_sink.specs.declared.sink.Piece.{Piece}
use Rattle.text_sink.proofs.sink.Sink.put_all.Goals as goal

-- the texts of the pieces before one, its text, and the texts of the pieces after it
split_at : (pieces : List Piece) (i : ℕ) (d : Piece) → i < length pieces →
    (pieces_text (take i pieces) ++ piece_text (get_or pieces i d)) ++ pieces_text (drop (i + 1) pieces) ≡ pieces_text pieces
split_at pieces i d inside =
    ap (λ (text : List ℕ). text ++ pieces_text (drop (i + 1) pieces))
    (ap (λ (text : List ℕ). pieces_text (take i pieces) ++ text) (sym (append-nil (piece_text (get_or pieces i d))))
    ∙ sym (flat_map-append piece_text (take i pieces) (get_or pieces i d ∷ []))
    ∙ ap pieces_text (sym (take_more pieces i d inside)))
    ∙ sym (flat_map-append piece_text (take (i + 1) pieces) (drop (i + 1) pieces))
    ∙ ap pieces_text (take-append-drop (i + 1) pieces)

module _ {W : Type 0} {target : Ghosts W} where
  -- the pieces before one were written, and this one could not be written
  piece_failed : {old middle new : Sink W target} {u : Unit {0}} {e f : PortFault} (pieces : List Piece) (i : ℕ) (d : Piece) → i < length pieces →
      PutsText old (Ok u) (pieces_text (take i pieces)) middle → PutsText middle (Err e) (piece_text (get_or pieces i d)) new →
      PutsText old (Err f) (pieces_text pieces) new
  piece_failed {old} {middle} {new} {u} {e} {f} pieces i d inside before failed =
      subst (λ (text : List ℕ). PutsText old (Err f) text new) (split_at pieces i d inside)
      (puts_stop (pieces_text (drop (i + 1) pieces)) (puts_then before failed))

pub returns-then-self-clause-takes : goal.returns-then-self-clause-takes
returns-then-self-clause-takes g c = puts_none c.args.self.now _ _ c.if-self.true

pub returns-in_err-put_piece-clause-takes : goal.returns-in_err-put_piece-clause-takes
returns-in_err-put_piece-clause-takes g c =
    puts_exit _ c.from_residual.ensures.0
    (piece_failed c.args.pieces.now c.loop-index.index _ (omega arith) c.loop-index.invariant
    (rw c.in_err-put_piece.was at c.put_piece.ensures))
