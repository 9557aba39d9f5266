use Rattle.std.proofs.Common.{codes, fold}
use Rattle.clap.specs.Words.{with_rule}
use Rattle.inrc2pb_frame.specs.Arguments.{file_rule, flag_rule}
use Rattle.inrc2pb_program.specs.CommandLine.{week_rules}
use Rattle.inrc2pb_frame.proofs.CommandSteps.{adds_arg, ends_with_arg}
use Rattle.inrc2pb_program.proofs.command.with_inputs.Goals as goal

pub returns : goal.returns
returns c start named =
    let with_files = fold with_rule start week_rules in
    let with_fix = with_rule with_files (file_rule (codes "fix")) in
    let files = c.in_ok-with_week.ensures start named in
    let fix = adds_arg with_files (file_rule (codes "fix")) c.in_ok-with_week.field-0 c.file_option.result c.in_ok-arg.field-0 files
    c.file_option.ensures.rule c.file_option.ensures.local c.in_ok-arg.ensures in
    ends_with_arg with_fix (flag_rule (codes "early")) c.in_ok-arg.field-0 c.flag.result c.arg-2.result fix
    c.flag.ensures.rule c.flag.ensures.local c.arg-2.ensures
