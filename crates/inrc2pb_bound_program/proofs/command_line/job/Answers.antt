use Rattle.clap.specs.Words.{app_of}
use Rattle.inrc2pb_frame.specs.Options.{texts}
use Rattle.inrc2pb_frame.proofs.Refusals.{no_fault, refused}
use Rattle.inrc2pb_bound_program.specs.CommandLine.{bound_app}
use Rattle.inrc2pb_bound_program.proofs.BoundWords.{err_for, is_simple_and_free-bound, ok_for, options_read}
use Rattle.inrc2pb_bound_program.proofs.command_line.job.Goals as goal

pub returns-clause-ok : goal.returns-clause-ok
returns-clause-ok c =
    let words = texts c.args.words.now in
    let read = options_read (app_of c.in_ok-command.command) words c.in_ok-matches.matches c.in_ok-command.ensures.0
    c.in_ok-matches.ensures.matches in
    let none = no_fault bound_app (app_of c.in_ok-command.command) words c.in_ok-command.ensures.0 is_simple_and_free-bound
    c.in_ok-matches.ensures.kinds in
    ok_for words _ c.job_of.result none read c.job_of.ensures.ok

pub returns-clause-err : goal.returns-clause-err
returns-clause-err c =
    let words = texts c.args.words.now in
    let read = options_read (app_of c.in_ok-command.command) words c.in_ok-matches.matches c.in_ok-command.ensures.0
    c.in_ok-matches.ensures.matches in
    let none = no_fault bound_app (app_of c.in_ok-command.command) words c.in_ok-command.ensures.0 is_simple_and_free-bound
    c.in_ok-matches.ensures.kinds in
    err_for words _ c.job_of.result none read c.job_of.ensures.err

pub returns-in_err-matches-clause-err : goal.returns-in_err-matches-clause-err
returns-in_err-matches-clause-err c =
    refused bound_app _ (app_of c.in_ok-command.command) (texts c.args.words.now) c.in_err-matches.field-0.0
    c.from_residual-in_err-matches.result c.in_ok-command.ensures.0 is_simple_and_free-bound c.in_err-matches.ensures.kinds
    c.from_residual-in_err-matches.ensures.1
