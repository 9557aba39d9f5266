use Rattle.text_sink.proofs.LogicWords.{puts_exit, puts_stop}
use Rattle.text_sink.proofs.sink.Sink.unit_term.Goals as goal

pub returns-in_err-empty_buffer-clause-takes : goal.returns-in_err-empty_buffer-clause-takes
returns-in_err-empty_buffer-clause-takes g c =
    puts_exit _ c.from_residual.ensures.0 (puts_stop _ c.in_err-empty_buffer.ensures.takes)
