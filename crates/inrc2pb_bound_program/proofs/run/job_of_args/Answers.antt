use Rattle.std.proofs.Common.{◌∙◌, ap, map, string_bytes}
use Rattle.std.proofs.lemmas.Result.{IfOk-weaker}
use Rattle.inrc2pb_frame.specs.Options.{texts}
use Rattle.inrc2pb_frame.proofs.GivenWords.{job_given, stop_given}
use Rattle.inrc2pb_bound_program.specs.BoundPrograms.{inrc2pb_bound}
use Rattle.inrc2pb_bound_program.proofs.run.job_of_args.Goals as goal

pub returns-clause-ok : goal.returns-clause-ok
returns-clause-ok c =
    let read = ap texts c.as_slice-2.ensures.value ∙ c.in_ok-words-3.ensures ∙ ap (map string_bytes) c.as_slice.ensures.value
    ∙ c.in_ok-words-2.ensures in
    job_given inrc2pb_bound c.args.words c.in_ok-words.field-0 _ c.in_ok-words.was read c.job.result c.job.ensures.ok

pub returns-clause-err : goal.returns-clause-err
returns-clause-err c =
    let read = ap texts c.as_slice-2.ensures.value ∙ c.in_ok-words-3.ensures ∙ ap (map string_bytes) c.as_slice.ensures.value
    ∙ c.in_ok-words-2.ensures in
    stop_given inrc2pb_bound c.args.words c.in_ok-words.field-0 _ c.in_ok-words.was read c.job.result c.job.ensures.err

pub returns-clause-files : goal.returns-clause-files
returns-clause-files c = IfOk-weaker c.job.result _ _ (λ job is. is.spelled.files) c.job.ensures.ok
