-- The state of a port over a reader or a writer of the standard library.
use Rattle.std.specs.Prelude.{◌≡◌, ◌⊎◌, ℕ, Bool, true, List, length}
use Rattle.byte_ports.specs.declared.std_ports.FromRead.{FromRead}
use Rattle.byte_ports.specs.declared.std_ports.ToWrite.{ToWrite}

abbrev pub inner_reader : {R : Type 0} → FromRead R → R
inner_reader port = port.reader

abbrev pub is_failed_reader : {R : Type 0} → FromRead R → Bool
is_failed_reader port = port.failed

abbrev pub inner_writer : {W : Type 0} → ToWrite W → W
inner_writer port = port.writer

abbrev pub is_failed_writer : {W : Type 0} → ToWrite W → Bool
is_failed_writer port = port.failed

-- a call that is not passed on: the port failed before, or there is nothing to move
abbrev pub IsUnasked : Bool → List ℕ → Type 0
IsUnasked failed bytes = (failed ≡ true) ⊎ (length bytes ≡ 0)
