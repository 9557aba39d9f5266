use Rattle.std.proofs.Common.{[], codes}
use Rattle.inrc2pb_frame.specs.Arguments.{file_rule}
use Rattle.inrc2pb_program.specs.CommandLine.{subcommand_app}
use Rattle.inrc2pb_frame.proofs.CommandSteps.{ends_with_arg}
use Rattle.inrc2pb_program.proofs.command.encode.Goals as goal

pub returns : goal.returns
returns c =
    ends_with_arg (subcommand_app (codes "encode") []) (file_rule (codes "opb")) c.in_ok-subcommand.field-0 c.file_option.result c.arg.result
    c.in_ok-subcommand.ensures c.file_option.ensures.rule c.file_option.ensures.local c.arg.ensures
