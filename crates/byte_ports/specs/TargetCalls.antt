-- The promises of a target's calls, as the trait `Target` makes them. The target is `old` before a call and `new` after it.
use Rattle.std.specs.Prelude.{◌≡◌, ℕ, ◌<◌, ◌≤◌, false, List, length, Result, IfErr, IfOk, IsOk, OnOk}
use Rattle.byte_ports.specs.PortCalls.{FailsForGood, SendsOnWrite}
use Rattle.byte_ports.specs.Ports.{known_len}
use Rattle.byte_ports.specs.declared.ports.PortFault.{PortFault}
use Rattle.byte_ports.specs.declared.ports.Target.{Ghosts}

-- a write takes at most the bytes of the piece, and at least one if there is any
pub record CountsBytes (piece : List ℕ) (result : Result ℕ PortFault) : Type 0 where
  pub bound : IfOk result (λ n. n ≤ length piece)
  pub progress : IfOk result (λ n. 0 < length piece → 0 < n)

-- a write sends the first bytes of the piece, and flushes none; an empty piece is no error of a sound target
pub record WritesPiece {W : Type 0} (target : Ghosts W) (old new : W) (piece : List ℕ) (result : Result ℕ PortFault) : Type 0 where
  pub count : CountsBytes piece result
  pub bytes : SendsOnWrite (target.sent old) result piece (target.sent new)
  pub empty : length piece ≡ 0 → target.has_failed old ≡ false → IsOk result
  pub flushed : target.flushed new ≡ target.flushed old
  pub fails : FailsForGood target.has_failed old new result

-- a flush sends none, and flushes all sent bytes, or none if it fails
pub record FlushesSent {W : Type 0} (target : Ghosts W) (old new : W) (result : Result (Unit {0}) PortFault) : Type 0 where
  pub bytes : target.sent new ≡ target.sent old
  pub flushed : OnOk result (target.flushed new ≡ known_len (target.sent new))
  pub unflushed : IfErr result (λ _. target.flushed new ≡ target.flushed old)
  pub fails : FailsForGood target.has_failed old new result
