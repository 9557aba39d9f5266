use Rattle.std.proofs.Common.{IfOk, subst}
use Rattle.inrc2pb_frame.specs.Arguments.{IsCommandOf}
use Rattle.inrc2pb_frame.proofs.CommandSteps.{ends_with_subcommand}
use Rattle.inrc2pb_program.proofs.command.with_subcommand.Goals as goal

pub returns : goal.returns
returns c a b is is_sub =
    ends_with_subcommand a b c.args.command c.in_ok-subcommand.field-0 c.subcommand.result is
    (subst (λ r. IfOk r (IsCommandOf b)) c.in_ok-subcommand.was is_sub) c.subcommand.ensures
