use Rattle.std.proofs.Common.{refl}
use Rattle.byte_ports.proofs.OpeningLemmas.{opens_none, opens_stopped, opens_then}
use Rattle.inrc2pb_bound_program.proofs.open_files.open_week.Goals as goal

pub returns-in_err-open : goal.returns-in_err-open
returns-in_err-open g c = opens_stopped _ c.from_residual.ensures.1 (rw c.as_str.ensures.value at c.in_err-open.ensures)

pub returns-in_err-open_if_named : goal.returns-in_err-open_if_named
returns-in_err-open_if_named g c =
    opens_then (rw c.as_str.ensures.value at c.in_ok-open.ensures)
    (opens_stopped _ c.from_residual-in_err-open_if_named.ensures.1 c.in_err-open_if_named.ensures)

pub returns : goal.returns
returns g c =
    opens_then (rw c.as_str.ensures.value at c.in_ok-open.ensures) (opens_then c.in_ok-open_if_named.ensures (opens_none refl))
