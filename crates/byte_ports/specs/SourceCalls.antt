-- The promises of a source's reads, as the trait `Source` makes them. The source is `old` before a read and `new` after it, the
-- buffer `before` and `after`.
use Rattle.std.specs.Prelude.{◌≡◌, ℕ, ◌≤◌, ◌||◌, false, List, length, Result, IfOk, IsOk}
use Rattle.byte_ports.specs.PortCalls.{FailsForGood, LeavesAfterRead, says_end}
use Rattle.byte_ports.specs.declared.ports.PortFault.{PortFault}
use Rattle.byte_ports.specs.declared.ports.Source.{Ghosts}

-- a read moves the next bytes to the front of the buffer, and says whether the source has ended; an empty buffer is no error of a sound
-- source
pub record ReadsInto {S : Type 0} (source : Ghosts S) (old new : S) (before after : List ℕ) (result : Result ℕ PortFault) : Type 0 where
  pub bound : IfOk result (λ n. n ≤ length after)
  pub bytes : LeavesAfterRead (source.left old) result after (source.left new)
  pub empty : length before ≡ 0 → source.has_failed old ≡ false → IsOk result
  pub fails : FailsForGood source.has_failed old new result
  pub end : source.has_ended new ≡ (source.has_ended old || says_end result after)
