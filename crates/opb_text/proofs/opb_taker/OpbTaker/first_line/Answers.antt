use Rattle.std.proofs.Common.{◌≡◌, ℕ, [], ◌++◌, append_assoc}
use Rattle.std.specs.Prelude.{codes}
use Rattle.rota_core.specs.Numeral.{numeral}
use Rattle.opb_text.specs.ModelText.{first_line}
use Rattle.text_sink.proofs.LogicWords.{puts_exit, puts_same, puts_stop, puts_then}
use Rattle.opb_text.proofs.opb_taker.OpbTaker.first_line.Goals as goal

-- the first number with the text before and after it, and then the second number
parts : (variables constraints : ℕ) → first_line variables constraints ≡
    (codes "* #variable= " ++ numeral variables ++ codes " #constraint= ") ++ ([] ++ numeral constraints ++ codes "\n")
parts variables constraints =
    append_assoc (codes "* #variable= " ++ numeral variables ++ codes " #constraint= ") (numeral constraints) (codes "\n")

pub returns-in_err-number_between-clause-takes : goal.returns-in_err-number_between-clause-takes
returns-in_err-number_between-clause-takes g c =
    puts_exit _ c.from_residual.ensures.0
    (puts_same (parts c.args.counts.variables c.args.counts.constraints)
    (puts_stop _ (rw c.from.ensures at c.in_err-number_between.ensures.takes)))

pub returns-clause-takes : goal.returns-clause-takes
returns-clause-takes g c =
    puts_same (parts c.args.counts.variables c.args.counts.constraints)
    (puts_then (rw c.from.ensures at c.in_ok-number_between.ensures.takes) (rw c.from-2.ensures at c.number_between-2.ensures.takes))
