use Rattle.std.proofs.Common.{◌≡◌, ap, ◌∙◌}
use Rattle.std.proofs.lemmas.Int.{to_z-of_z}
use Rattle.std.specs.Fmt.{signed_decimal}
use mir.Syntax.{w128}
use Rattle.rota_core.specs.Numeral.{signed_numeral}
use Rattle.text_sink.proofs.StdNumerals.{signed_numeral_is}
use Rattle.text_sink.proofs.sink.Sink.number.Goals as goal

pub returns-clause-takes : goal.returns-clause-takes
returns-clause-takes g c =
    let fits = c.ranges.number in
    let text : c.as_bytes.result.now ≡ signed_numeral c.args.number =
    c.as_bytes.ensures.value
    ∙ c.format.ensures.text
    ∙ ap signed_decimal (to_z-of_z w128 c.args.number fits)
    ∙ signed_numeral_is c.args.number fits.sfits in
    rw text at c.put.ensures.takes
