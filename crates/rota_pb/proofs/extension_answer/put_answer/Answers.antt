use Rattle.std.proofs.Common.{ℕ, ◌++◌, sym, ap, ◌∙◌}
use Rattle.rota_core.specs.InstanceTables.{problem_of}
use Rattle.rota_core.specs.RosterTables.{set_of}
use Rattle.rota_judge.specs.ExtensionTruths.{extension_truths}
use Rattle.text_sink.proofs.LogicWords.{finish_exit, puts_finish, puts_same, puts_stop, puts_then}
use Rattle.solver_text.specs.AnswerText.{answer_head}
use Rattle.solver_text.specs.AnswerWriter.{end_text, literals_text}
use Rattle.rota_pb.specs.Extending.{extension_answer}
use Rattle.rota_pb.proofs.extension_answer.put_answer.Goals as goal

pub returns-in_err-start : goal.returns-in_err-start
unfolding extension_answer
returns-in_err-start g c =
    let truths = extension_truths (problem_of c.args.instance.now) (set_of c.args.roster.now) in
    finish_exit _ c.from_residual.ensures.0
    (puts_same (sym (c.calls_write_the_answer.ensures c.args.objective truths))
    (puts_stop (end_text _) (puts_stop (literals_text 0 truths) c.in_err-start.ensures.takes)))

pub returns-in_err-put_literals : goal.returns-in_err-put_literals
unfolding extension_answer
returns-in_err-put_literals g c =
    let truths = extension_truths (problem_of c.args.instance.now) (set_of c.args.roster.now) in
    finish_exit _ c.from_residual-in_err-put_literals.ensures.0
    (puts_same (sym (c.calls_write_the_answer.ensures c.args.objective truths))
    (puts_stop (end_text _) (puts_then c.in_ok-start.ensures.takes c.in_err-put_literals.ensures.takes)))

pub returns : goal.returns
unfolding extension_answer
returns g c =
    let truths = extension_truths (problem_of c.args.instance.now) (set_of c.args.roster.now) in
    puts_finish
    (sym (ap (λ (n : ℕ). (answer_head c.args.objective ++ literals_text 0 truths) ++ end_text n) c.in_ok-put_literals.ensures.literals ∙
    c.calls_write_the_answer.ensures c.args.objective truths))
    (puts_then c.in_ok-start.ensures.takes c.in_ok-put_literals.ensures.takes) c.finish.ensures.finishes
