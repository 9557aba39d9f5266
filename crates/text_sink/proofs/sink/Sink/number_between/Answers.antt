use Rattle.text_sink.proofs.LogicWords.{puts_exit, puts_stop, puts_then}
use Rattle.text_sink.proofs.sink.Sink.number_between.Goals as goal

pub returns-in_err-put-clause-takes : goal.returns-in_err-put-clause-takes
returns-in_err-put-clause-takes g c =
    puts_exit _ c.from_residual.ensures.0 (puts_stop _ (puts_stop _ c.in_err-put.ensures.takes))

pub returns-in_err-natural-clause-takes : goal.returns-in_err-natural-clause-takes
returns-in_err-natural-clause-takes g c =
    puts_exit _ c.from_residual-in_err-natural.ensures.0 (puts_stop _ (puts_then c.in_ok-put.ensures.takes c.in_err-natural.ensures.takes))
