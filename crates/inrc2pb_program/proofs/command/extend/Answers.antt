use Rattle.std.proofs.Common.{[], codes}
use Rattle.inrc2pb_frame.specs.Arguments.{required_file_rule}
use Rattle.inrc2pb_program.specs.CommandLine.{subcommand_app}
use Rattle.inrc2pb_frame.proofs.CommandSteps.{ends_with_arg}
use Rattle.inrc2pb_program.proofs.command.extend.Goals as goal

pub returns : goal.returns
returns c =
    ends_with_arg (subcommand_app (codes "extend") []) (required_file_rule (codes "from")) c.in_ok-subcommand.field-0 c.required_file.result
    c.arg.result c.in_ok-subcommand.ensures c.required_file.ensures.rule c.required_file.ensures.local c.arg.ensures
