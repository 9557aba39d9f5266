use Rattle.std.proofs.Common.{Some, codes, true}
use Rattle.clap.specs.Words.{with_rule}
use Rattle.clap.specs.declared.builder.action.ArgAction.TheVariants.{Append}
use Rattle.inrc2pb_frame.specs.Arguments.{file_rule, flag_rule, required_file_rule}
use Rattle.inrc2pb_frame.proofs.CommandSteps.{adds_arg, ends_with_arg}
use Rattle.inrc2pb_bound_program.specs.CommandLine.{bare_bound_app, files_rule}
use Rattle.inrc2pb_bound_program.proofs.command.inrc2pb_bound.Goals as goal

pub returns : goal.returns
returns c =
    let week_rule = record (files_rule (codes "week")) { required = true } in
    let fix_rule = record (file_rule (codes "fix")) { action = Some Append } in
    let with_sce = with_rule bare_bound_app (required_file_rule (codes "sce")) in
    let with_his = with_rule with_sce (required_file_rule (codes "his")) in
    let with_week = with_rule with_his week_rule in
    let with_fix = with_rule with_week fix_rule in
    let with_early = with_rule with_fix (flag_rule (codes "early")) in
    let with_given = with_rule with_early (file_rule (codes "given")) in
    let with_proof = with_rule with_given (file_rule (codes "proof")) in
    let with_roster = with_rule with_proof (files_rule (codes "roster")) in
    let sce = adds_arg bare_bound_app (required_file_rule (codes "sce")) c.in_ok-bare.field-0 c.required_file.result c.in_ok-arg.field-0
    c.in_ok-bare.ensures c.required_file.ensures.rule c.required_file.ensures.local c.in_ok-arg.ensures in
    let his = adds_arg with_sce (required_file_rule (codes "his")) c.in_ok-arg.field-0 c.required_file-2.result c.in_ok-arg-2.field-0
    sce c.required_file-2.ensures.rule c.required_file-2.ensures.local c.in_ok-arg-2.ensures in
    let week = adds_arg with_his week_rule c.in_ok-arg-2.field-0 c.week.result c.in_ok-arg-3.field-0
    his c.week.ensures.rule c.week.ensures.local c.in_ok-arg-3.ensures in
    let fix = adds_arg with_week fix_rule c.in_ok-arg-3.field-0 c.fix.result c.in_ok-arg-4.field-0
    week c.fix.ensures.rule c.fix.ensures.local c.in_ok-arg-4.ensures in
    let early = adds_arg with_fix (flag_rule (codes "early")) c.in_ok-arg-4.field-0 c.flag.result c.in_ok-arg-5.field-0
    fix c.flag.ensures.rule c.flag.ensures.local c.in_ok-arg-5.ensures in
    let given = adds_arg with_early (file_rule (codes "given")) c.in_ok-arg-5.field-0 c.file_option.result c.in_ok-arg-6.field-0
    early c.file_option.ensures.rule c.file_option.ensures.local c.in_ok-arg-6.ensures in
    let proof = adds_arg with_given (file_rule (codes "proof")) c.in_ok-arg-6.field-0 c.file_option-2.result c.in_ok-arg-7.field-0
    given c.file_option-2.ensures.rule c.file_option-2.ensures.local c.in_ok-arg-7.ensures in
    let roster = adds_arg with_proof (files_rule (codes "roster")) c.in_ok-arg-7.field-0 c.files_option.result c.in_ok-arg-8.field-0
    proof c.files_option.ensures.rule c.files_option.ensures.local c.in_ok-arg-8.ensures in
    ends_with_arg with_roster (flag_rule (codes "minimums")) c.in_ok-arg-8.field-0 c.flag-2.result c.arg-9.result
    roster c.flag-2.ensures.rule c.flag-2.ensures.local c.arg-9.ensures
