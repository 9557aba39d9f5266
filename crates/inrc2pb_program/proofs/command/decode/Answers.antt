use Rattle.std.proofs.Common.{[], codes}
use Rattle.clap.specs.Words.{with_rule}
use Rattle.inrc2pb_frame.specs.Arguments.{file_rule, required_file_rule}
use Rattle.inrc2pb_program.specs.CommandLine.{subcommand_app}
use Rattle.inrc2pb_frame.proofs.CommandSteps.{adds_arg, ends_with_arg}
use Rattle.inrc2pb_program.proofs.command.decode.Goals as goal

pub returns : goal.returns
returns c =
    let start = subcommand_app (codes "decode") [] in
    let sol = adds_arg start (required_file_rule (codes "sol")) c.in_ok-subcommand.field-0 c.required_file.result c.in_ok-arg.field-0
    c.in_ok-subcommand.ensures c.required_file.ensures.rule c.required_file.ensures.local c.in_ok-arg.ensures in
    ends_with_arg (with_rule start (required_file_rule (codes "sol"))) (file_rule (codes "answer")) c.in_ok-arg.field-0 c.file_option.result
    c.arg-2.result sol c.file_option.ensures.rule c.file_option.ensures.local c.arg-2.ensures
