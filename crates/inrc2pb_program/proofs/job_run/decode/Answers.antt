use Rattle.std.proofs.Common.{None, Err, refl}
use Rattle.std.proofs.lemmas.Result.{err_from_is_err_and}
use Rattle.inrc2pb_program.specs.JobOutcomes.Decodes.{ran_on_file, ran_on_input, refused}
use Rattle.byte_ports.proofs.OpeningLemmas.{opens_none, opens_stopped, opens_then}
use Rattle.inrc2pb_program.proofs.job_run.decode.Goals as goal

pub returns-in_err-opened : goal.returns-in_err-opened
returns-in_err-opened g c =
    let p = err_from_is_err_and c.from_residual.result c.from_residual.ensures.1 in
    refused c.in_err-opened.field-0.0 (rw (p.1, p.2) refl) (opens_stopped (Err _) refl c.in_err-opened.ensures) refl refl refl

pub returns-in_err-given-in-Some : goal.returns-in_err-given-in-Some
returns-in_err-given-in-Some g c =
    let given = rw c.as_str.ensures.value at c.in_err-given-in-Some.ensures in
    let p = err_from_is_err_and c.from_residual-in_err-given-in-Some.result c.from_residual-in_err-given-in-Some.ensures.1 in
    rw c.in-Some.is (refused c.in_err-given-in-Some.field-0.0 (rw (p.1, p.2) refl)
    (opens_then c.in_ok-opened.ensures (opens_stopped (Err _) refl (opens_stopped (Err _) refl given))) refl refl refl)

pub returns-in-Some : goal.returns-in-Some
returns-in-Some g c =
    let given = rw c.as_str.ensures.value at c.in_ok-given-in-Some.ensures in
    rw c.in-Some.is (ran_on_file c.in_ok-opened.opened c.decode_opened.new.opened c.in_ok-given-in-Some.given c.decode_opened.new.answer
    (opens_then c.in_ok-opened.ensures (opens_then (opens_then given (opens_none refl)) (opens_none refl))) refl c.decode_opened.ensures)

pub returns : goal.returns
returns g c =
    rw c.in-None.is (ran_on_input c.in_ok-opened.opened c.decode_opened-in-None.new.opened
    (opens_then c.in_ok-opened.ensures (opens_then {found = None} (opens_none refl) (opens_none refl))) c.decode_opened-in-None.ensures)
