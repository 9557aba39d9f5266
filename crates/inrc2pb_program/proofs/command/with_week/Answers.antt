use Rattle.std.proofs.Common.{codes}
use Rattle.clap.specs.Words.{with_rule}
use Rattle.inrc2pb_frame.specs.Arguments.{required_file_rule}
use Rattle.inrc2pb_frame.proofs.CommandSteps.{adds_arg, ends_with_arg}
use Rattle.inrc2pb_program.proofs.command.with_week.Goals as goal

pub returns : goal.returns
returns c a is =
    let with_sce = with_rule a (required_file_rule (codes "sce")) in
    let with_his = with_rule with_sce (required_file_rule (codes "his")) in
    let sce = adds_arg a (required_file_rule (codes "sce")) c.args.command c.required_file.result c.in_ok-arg.field-0 is
    c.required_file.ensures.rule c.required_file.ensures.local c.in_ok-arg.ensures in
    let his = adds_arg with_sce (required_file_rule (codes "his")) c.in_ok-arg.field-0 c.required_file-2.result c.in_ok-arg-2.field-0 sce
    c.required_file-2.ensures.rule c.required_file-2.ensures.local c.in_ok-arg-2.ensures in
    ends_with_arg with_his (required_file_rule (codes "week")) c.in_ok-arg-2.field-0 c.required_file-3.result c.arg-3.result his
    c.required_file-3.ensures.rule c.required_file-3.ensures.local c.arg-3.ensures
