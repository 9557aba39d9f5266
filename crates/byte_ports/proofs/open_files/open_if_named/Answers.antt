use Rattle.std.proofs.Common.{refl}
use Rattle.byte_ports.proofs.OpeningLemmas.{opens_none, opens_stopped, opens_then}
use Rattle.byte_ports.proofs.open_files.open_if_named.Goals as goal

pub returns-in_err-open-in-Some : goal.returns-in_err-open-in-Some
returns-in_err-open-in-Some g c =
    let stops = rw c.as_str.ensures.value at c.in_err-open-in-Some.ensures in
    rw c.in-Some.is (opens_stopped _ c.from_residual.ensures.1 stops)

pub returns-in_ok-open-in-Some : goal.returns-in_ok-open-in-Some
returns-in_ok-open-in-Some g c =
    let opened = rw c.as_str.ensures.value at c.in_ok-open-in-Some.ensures in
    rw c.in-Some.is (opens_then opened (opens_none refl))
