use Rattle.std.proofs.Common.{◌≡◌, ◌∙◌, arith}
use Rattle.rota_core.specs.Numeral.{numeral}
use Rattle.text_sink.proofs.StdNumerals.{numeral_is}
use Rattle.text_sink.proofs.LogicWords.{puts_exit, puts_stop}
use Rattle.text_sink.proofs.sink.Sink.natural.Goals as goal

pub returns-in_err-empty_buffer-clause-takes : goal.returns-in_err-empty_buffer-clause-takes
returns-in_err-empty_buffer-clause-takes g c =
    puts_exit _ c.from_residual.ensures.0 (puts_stop _ c.in_err-empty_buffer.ensures.takes)

pub returns-then-number-clause-takes : goal.returns-then-number-clause-takes
returns-then-number-clause-takes g c =
    let text : c.as_bytes.result.now ≡ numeral c.args.number =
    c.as_bytes.ensures.value ∙ c.format.ensures.text ∙ numeral_is c.args.number (omega (arith, c.ranges.number)) in
    rw text at c.put.ensures.takes
