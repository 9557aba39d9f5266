-- The effects of a port's calls on its known bytes, and the failure of a port.
use Rattle.std.specs.Prelude.{◌≡◌, ℕ, ◌<◌, Bool, true, false, ◌&&◌, ◌||◌, nat_eq, nat_lt, List, length, take, Result, Ok, Err, IsErr, is_err, MatchResult}
use Rattle.std.specs.Io.KnownBytes.{append_known, prepend_known, IsAtEnd}
use Rattle.byte_ports.specs.Ports.{KnownBytes}

-- a read removes from the source the n bytes that it moved to the front of the buffer; it moves none in only three cases: at the end,
-- into an empty buffer, and at an error
abbrev pub LeavesAfterRead : {E : Type 0} → KnownBytes → Result ℕ E → List ℕ → KnownBytes → Type 0
LeavesAfterRead old result buffer new =
    MatchResult result
    (λ n. (old ≡ prepend_known (take n buffer) new) × (n ≡ 0 → 0 < length buffer → IsAtEnd new))
    (λ _. new ≡ old)

-- a read reports the end: it moved no byte, although the buffer has room
abbrev pub says_end : {E : Type 0} → Result ℕ E → List ℕ → Bool
says_end (Ok n) buffer = nat_eq n 0 && nat_lt 0 (length buffer)
says_end (Err fault) buffer = false

-- a write sent the first n bytes of the piece, and none if it failed
abbrev pub SendsOnWrite : {E : Type 0} → KnownBytes → Result ℕ E → List ℕ → KnownBytes → Type 0
SendsOnWrite old result piece new =
    MatchResult result (λ n. new ≡ append_known old (take n piece)) (λ _. new ≡ old)

-- after an error the port has failed, and each call of a port that has failed is an error
pub record FailsForGood {P V E : Type 0} (has_failed : P → Bool) (old new : P) (result : Result V E) : Type 0 where
  pub failure : has_failed new ≡ (has_failed old || is_err result)
  pub for_good : has_failed old ≡ true → IsErr result
