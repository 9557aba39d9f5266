use Rattle.std.proofs.Common.{◌≡◌, pos, negsuc, rules, arith}
use Rattle.std.proofs.lemmas.Int.{ints}
use Rattle.rota_core.specs.Numeral.{numeral}
use Rattle.opb_text.proofs.opb_taker.OpbTakerTaker.term.Goals as goal

pub returns-in-1-clause-takes : goal.returns-in-1-clause-takes
unfolding numeral
returns-in-1-clause-takes g c =
    let one : c.args.coefficient ≡ pos 1 = omega (arith, ints) in
    rw one (search rules)

pub returns-in-minus1-clause-takes : goal.returns-in-minus1-clause-takes
unfolding numeral
returns-in-minus1-clause-takes g c =
    let one : c.args.coefficient ≡ negsuc 0 = search rules in
    rw one (search rules)
