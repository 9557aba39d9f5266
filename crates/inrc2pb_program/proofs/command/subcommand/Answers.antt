use Rattle.std.proofs.Common.{rules}
use Rattle.clap.specs.Words.{new_app}
use Rattle.inrc2pb_frame.specs.Arguments.{IsCommandOf}
use Rattle.inrc2pb_program.proofs.command.subcommand.Goals as goal

pub returns : goal.returns
returns c =
    let named : IsCommandOf (new_app c.args.name.now) c.after_help-command.result = search rules in
    c.with_inputs.ensures (new_app c.args.name.now) named
