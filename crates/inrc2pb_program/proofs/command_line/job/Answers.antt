use Rattle.clap.specs.Words.{app_of}
use Rattle.inrc2pb_frame.specs.Options.{texts}
use Rattle.inrc2pb_program.proofs.Subcommands.{Used, err_for, fault_free, matched_at, ok_for, subcommand_named, subcommand_read, words_refused}
use Rattle.inrc2pb_program.proofs.command_line.job.Goals as goal

pub job_of-requires : goal.job_of-requires
job_of-requires c =
    let words = texts c.args.words.now in
    let used : Used = (c.in-Some.name, c.in-Some.options) in
    let read = subcommand_read (app_of c.in_ok-command.command) words c.in_ok-matches.matches c.subcommand.result used c.in_ok-command.ensures.0
    c.in_ok-matches.ensures.matches c.subcommand.ensures.name c.subcommand.ensures.rows c.in-Some.is in
    subcommand_named words (matched_at used) read

pub returns-clause-ok : goal.returns-clause-ok
returns-clause-ok c =
    let words = texts c.args.words.now in
    let used : Used = (c.in-Some.name, c.in-Some.options) in
    let read = subcommand_read (app_of c.in_ok-command.command) words c.in_ok-matches.matches c.subcommand.result used c.in_ok-command.ensures.0
    c.in_ok-matches.ensures.matches c.subcommand.ensures.name c.subcommand.ensures.rows c.in-Some.is in
    let none = fault_free (app_of c.in_ok-command.command) words c.in_ok-command.ensures.0 c.in_ok-matches.ensures.kinds in
    ok_for words (matched_at used) c.job_of.result none read c.job_of.ensures.ok

pub returns-clause-err : goal.returns-clause-err
returns-clause-err c =
    let words = texts c.args.words.now in
    let used : Used = (c.in-Some.name, c.in-Some.options) in
    let read = subcommand_read (app_of c.in_ok-command.command) words c.in_ok-matches.matches c.subcommand.result used c.in_ok-command.ensures.0
    c.in_ok-matches.ensures.matches c.subcommand.ensures.name c.subcommand.ensures.rows c.in-Some.is in
    let none = fault_free (app_of c.in_ok-command.command) words c.in_ok-command.ensures.0 c.in_ok-matches.ensures.kinds in
    err_for words (matched_at used) c.job_of.result none read c.job_of.ensures.err

pub returns-in_err-matches-clause-err : goal.returns-in_err-matches-clause-err
returns-in_err-matches-clause-err c =
    words_refused (app_of c.in_ok-command.command) (texts c.args.words.now) c.in_err-matches.field-0.0 c.from_residual-in_err-matches.result
    c.in_ok-command.ensures.0 c.in_err-matches.ensures.kinds c.from_residual-in_err-matches.ensures.1
