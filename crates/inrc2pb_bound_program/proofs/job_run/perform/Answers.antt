use Rattle.std.proofs.Common.{◌∙◌, ap, refl, length}
use Rattle.std.proofs.lemmas.Result.{err_from_is_err_and}
use Rattle.byte_ports.proofs.OpenedFiles.{went}
use Rattle.inrc2pb_bound_program.specs.BoundPrograms.BoundOutcome.{ran, unopened}
use Rattle.inrc2pb_bound_program.specs.PeriodOpening.{open_path, open_week}
use Rattle.inrc2pb_bound_program.proofs.PeriodOpens.{each-length}
use Rattle.inrc2pb_bound_program.proofs.job_run.perform.Goals as goal

pub returns-in_err-opened : goal.returns-in_err-opened
returns-in_err-opened g c =
    let p = err_from_is_err_and c.from_residual.result c.from_residual.ensures.1 in
    unopened c.in_err-opened.field-0.0 (rw (p.1, p.2) refl) c.in_err-opened.ensures refl

pub run_bound-requires : goal.run_bound-requires
run_bound-requires g c =
    let port = g.O.File.Source in
    let at = g.O.Opens.at c.args.files.now in
    let paths = c.args.job.now.paths in
    let three = went (went (went c.in_ok-opened.ensures.ends).4).4 in
    let six = went (went (went three.4).4).4 in
    let opened = six.4.1 in
    let weeks = ap length opened.0 ∙ each-length (open_week port) paths.weeks.items three.0 at three.1 three.3 in
    let rosters = ap length opened.1 ∙ each-length (open_path port) paths.rosters.items six.0 at six.1 six.3 in
    record { files = record { some = rw weeks c.requires.some; rosters = rw (weeks, rosters) c.requires.rosters } }

pub returns : goal.returns
returns g c = ran c.in_ok-opened.opened c.run_bound.new.files c.in_ok-opened.ensures c.run_bound.ensures
