use Rattle.std.proofs.Common.{Err, refl}
use Rattle.std.proofs.lemmas.Result.{err_from_is_err_and}
use Rattle.inrc2pb_program.specs.JobOutcomes.Extends.{ran, refused}
use Rattle.inrc2pb_program.specs.declared.open_inputs.OpenInputs.{OpenInputs}
use Rattle.byte_ports.proofs.OpeningLemmas.{opens_none, opens_stopped, opens_then}
use Rattle.inrc2pb_program.proofs.job_run.extend.Goals as goal

pub returns-in_err-opened : goal.returns-in_err-opened
returns-in_err-opened g c =
    let p = err_from_is_err_and c.from_residual.result c.from_residual.ensures.1 in
    refused c.in_err-opened.field-0.0 (rw (p.1, p.2) refl) (opens_stopped (Err _) refl c.in_err-opened.ensures) refl

pub returns-in_err-given : goal.returns-in_err-given
returns-in_err-given g c =
    let p = err_from_is_err_and c.from_residual-in_err-given.result c.from_residual-in_err-given.ensures.1 in
    refused c.in_err-given.field-0.0 (rw (p.1, p.2) refl)
    (opens_then c.in_ok-opened.ensures (opens_stopped (Err _) refl c.in_err-given.ensures)) refl

pub returns : goal.returns
returns g c =
    let left : OpenInputs _ = record {
      choice = c.in_ok-opened.opened.choice;
      sce = c.run_extend.new.sce;
      his = c.run_extend.new.his;
      week = c.run_extend.new.week;
      fix = c.run_extend.new.fix_file;
    } in
    ran c.in_ok-opened.opened left c.in_ok-given.given c.run_extend.new.given
    (opens_then c.in_ok-opened.ensures (opens_then c.in_ok-given.ensures (opens_none refl))) c.run_extend.ensures.outcome
