use Rattle.std.proofs.Common.{refl}
use Rattle.std.proofs.lemmas.Result.{err_from_is_err_and}
use Rattle.inrc2pb_program.specs.JobOutcomes.Encodes.{ran, refused}
use Rattle.inrc2pb_program.specs.declared.open_inputs.OpenInputs.{OpenInputs}
use Rattle.inrc2pb_program.proofs.job_run.encode.Goals as goal

pub returns-in_err-opened : goal.returns-in_err-opened
returns-in_err-opened g c =
    let p = err_from_is_err_and c.from_residual.result c.from_residual.ensures.1 in
    refused c.in_err-opened.field-0.0 (rw (p.1, p.2) refl) c.in_err-opened.ensures refl

pub returns : goal.returns
returns g c =
    let left : OpenInputs _ = record {
      choice = c.in_ok-opened.opened.choice;
      sce = c.run_encode.new.sce;
      his = c.run_encode.new.his;
      week = c.run_encode.new.week;
      fix = c.run_encode.new.fix_file;
    } in
    ran c.in_ok-opened.opened left c.in_ok-opened.ensures c.run_encode.ensures.outcome
