use Rattle.std.proofs.Common.{refl}
use Rattle.byte_ports.proofs.OpeningLemmas.{opens_none, opens_stopped, opens_then}
use Rattle.inrc2pb_program.proofs.open_inputs.open_inputs.Goals as goal

pub returns-in_err-open : goal.returns-in_err-open
returns-in_err-open g c = opens_stopped _ c.from_residual.ensures.1 (rw c.as_str.ensures.value at c.in_err-open.ensures)

pub returns-in_err-open-2 : goal.returns-in_err-open-2
returns-in_err-open-2 g c =
    let one = rw c.as_str.ensures.value at c.in_ok-open.ensures in
    opens_then one (opens_stopped _ c.from_residual-in_err-open-2.ensures.1 (rw c.as_str-2.ensures.value at c.in_err-open-2.ensures))

pub returns-in_err-open-3 : goal.returns-in_err-open-3
returns-in_err-open-3 g c =
    let one = rw c.as_str.ensures.value at c.in_ok-open.ensures in
    let two = rw c.as_str-2.ensures.value at c.in_ok-open-2.ensures in
    opens_then one (opens_then two
    (opens_stopped _ c.from_residual-in_err-open-3.ensures.1 (rw c.as_str-3.ensures.value at c.in_err-open-3.ensures)))

pub returns-in_err-open_if_named : goal.returns-in_err-open_if_named
returns-in_err-open_if_named g c =
    let one = rw c.as_str.ensures.value at c.in_ok-open.ensures in
    let two = rw c.as_str-2.ensures.value at c.in_ok-open-2.ensures in
    let three = rw c.as_str-3.ensures.value at c.in_ok-open-3.ensures in
    opens_then one (opens_then two (opens_then three
    (opens_stopped _ c.from_residual-in_err-open_if_named.ensures.1 c.in_err-open_if_named.ensures)))

pub returns : goal.returns
returns g c =
    let one = rw c.as_str.ensures.value at c.in_ok-open.ensures in
    let two = rw c.as_str-2.ensures.value at c.in_ok-open-2.ensures in
    let three = rw c.as_str-3.ensures.value at c.in_ok-open-3.ensures in
    rw c.of.ensures (opens_then one (opens_then two (opens_then three
    (opens_then c.in_ok-open_if_named.ensures (opens_none (c.choice.ensures, refl))))))
