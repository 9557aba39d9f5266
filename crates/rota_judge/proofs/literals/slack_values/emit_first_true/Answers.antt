use Rattle.rota_judge.proofs.Common.{ℕ, ap, arith, exits, nat_lt}
use Rattle.rota_judge.proofs.LiteralTaking.{literals_refused}
use Rattle.rota_judge.proofs.literals.slack_values.emit_first_true.Goals as goal

pub returns-in_err-literal : goal.returns-in_err-literal
returns-in_err-literal g c =
    exits _ _ _ _ c.from_residual.ensures.0
    (literals_refused g.T.LiteralTaker (λ index. nat_lt index c.args.maximum) c.loop-index.index c.args.count _ _ _ _
    (ap (λ (p : ℕ). nat_lt p c.args.maximum) c.from.ensures) c.loop-index.invariant (omega arith) c.in_err-literal.ensures)
