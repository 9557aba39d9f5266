use Rattle.text_sink.proofs.LogicWords.{puts_exit, puts_stop, puts_then}
use Rattle.rota_bound_run.specs.BoundText.{optimal_line, penalty_line}
use Rattle.rota_bound_run.proofs.bound_text.put_answer.Goals as goal

pub returns-in_err-put_claim_line-clause-takes : goal.returns-in_err-put_claim_line-clause-takes
returns-in_err-put_claim_line-clause-takes g c =
    let answer = c.args.answer.now in
    puts_exit _ c.from_residual.ensures.0
    (puts_stop (optimal_line answer.optimal) (puts_stop (penalty_line answer.penalty) c.in_err-put_claim_line.ensures.takes))

pub returns-in_err-put_penalty_line-clause-takes : goal.returns-in_err-put_penalty_line-clause-takes
returns-in_err-put_penalty_line-clause-takes g c =
    let answer = c.args.answer.now in
    puts_exit _ c.from_residual-in_err-put_penalty_line.ensures.0
    (puts_stop (optimal_line answer.optimal) (puts_then c.in_ok-put_claim_line.ensures.takes c.in_err-put_penalty_line.ensures))
