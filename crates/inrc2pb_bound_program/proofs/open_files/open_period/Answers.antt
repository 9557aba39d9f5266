use Rattle.std.proofs.Common.{refl}
use Rattle.byte_ports.proofs.OpeningLemmas.{opens_none, opens_stopped, opens_then}
use Rattle.inrc2pb_bound_program.proofs.open_files.open_period.Goals as goal

pub returns-in_err-open : goal.returns-in_err-open
returns-in_err-open g c =
    opens_stopped _ c.from_residual.ensures.1 (rw c.as_str.ensures.value at c.in_err-open.ensures)

pub returns-in_err-open-2 : goal.returns-in_err-open-2
returns-in_err-open-2 g c =
    let one = rw c.as_str.ensures.value at c.in_ok-open.ensures in
    opens_then one (opens_stopped _ c.from_residual-in_err-open-2.ensures.1 (rw c.as_str-2.ensures.value at c.in_err-open-2.ensures))

pub returns-in_err-open_weeks : goal.returns-in_err-open_weeks
returns-in_err-open_weeks g c =
    let one = rw c.as_str.ensures.value at c.in_ok-open.ensures in
    let two = rw c.as_str-2.ensures.value at c.in_ok-open-2.ensures in
    opens_then one (opens_then two
    (opens_stopped _ c.from_residual-in_err-open_weeks.ensures.1 (rw c.deref.ensures.value at c.in_err-open_weeks.ensures)))

pub returns-in_err-open_if_named : goal.returns-in_err-open_if_named
returns-in_err-open_if_named g c =
    let one = rw c.as_str.ensures.value at c.in_ok-open.ensures in
    let two = rw c.as_str-2.ensures.value at c.in_ok-open-2.ensures in
    let three = rw c.deref.ensures.value at c.in_ok-open_weeks.ensures in
    opens_then one (opens_then two (opens_then three
    (opens_stopped _ c.from_residual-in_err-open_if_named.ensures.1 c.in_err-open_if_named.ensures)))

pub returns-in_err-open_if_named-2 : goal.returns-in_err-open_if_named-2
returns-in_err-open_if_named-2 g c =
    let one = rw c.as_str.ensures.value at c.in_ok-open.ensures in
    let two = rw c.as_str-2.ensures.value at c.in_ok-open-2.ensures in
    let three = rw c.deref.ensures.value at c.in_ok-open_weeks.ensures in
    let four = c.in_ok-open_if_named.ensures in
    opens_then one (opens_then two (opens_then three (opens_then four
    (opens_stopped _ c.from_residual-in_err-open_if_named-2.ensures.1 c.in_err-open_if_named-2.ensures))))

pub returns-in_err-open_each : goal.returns-in_err-open_each
returns-in_err-open_each g c =
    let one = rw c.as_str.ensures.value at c.in_ok-open.ensures in
    let two = rw c.as_str-2.ensures.value at c.in_ok-open-2.ensures in
    let three = rw c.deref.ensures.value at c.in_ok-open_weeks.ensures in
    let four = c.in_ok-open_if_named.ensures in
    let five = c.in_ok-open_if_named-2.ensures in
    opens_then one (opens_then two (opens_then three (opens_then four (opens_then five
    (opens_stopped _ c.from_residual-in_err-open_each.ensures.1 (rw c.deref-2.ensures.value at c.in_err-open_each.ensures))))))

pub returns : goal.returns
returns g c =
    let one = rw c.as_str.ensures.value at c.in_ok-open.ensures in
    let two = rw c.as_str-2.ensures.value at c.in_ok-open-2.ensures in
    let three = rw c.deref.ensures.value at c.in_ok-open_weeks.ensures in
    let four = c.in_ok-open_if_named.ensures in
    let five = c.in_ok-open_if_named-2.ensures in
    let six = rw c.deref-2.ensures.value at c.in_ok-open_each.ensures in
    opens_then one (opens_then two (opens_then three (opens_then four (opens_then five (opens_then six (opens_none (refl, refl, refl)))))))
