use Rattle.std.proofs.Common.{refl}
use Rattle.std.proofs.lemmas.Result.{err_from_is_err_and}
use Rattle.inrc2pb_frame.specs.Runs.IsRun.{performed, stopped}
use Rattle.inrc2pb_bound_program.proofs.run.run.Goals as goal

pub returns-in_err-job : goal.returns-in_err-job
returns-in_err-job g c =
    let p = err_from_is_err_and c.from_residual.result c.from_residual.ensures.1 in
    stopped c.in_err-job.field-0.0 (rw (p.1, p.2) refl) c.in_err-job.ensures.err (record { unopened = refl; output = refl })

pub returns-in_err-perform : goal.returns-in_err-perform
returns-in_err-perform g c =
    let p = err_from_is_err_and c.from_residual-in_err-perform.result c.from_residual-in_err-perform.ensures.1 in
    performed c.in_ok-job.job c.in_ok-job.ensures.ok
    (record { result = c.perform.result; outcome = c.perform.ensures; end = rw (p.1, p.2, c.in_err-perform.was) refl })

pub returns : goal.returns
returns g c =
    performed c.in_ok-job.job c.in_ok-job.ensures.ok
    (record { result = c.perform.result; outcome = c.perform.ensures; end = rw c.in_ok-perform.was refl })
