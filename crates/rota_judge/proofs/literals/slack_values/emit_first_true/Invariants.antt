use Rattle.rota_judge.proofs.Common.{nat_lt, TookLiterals}
use Rattle.rota_judge.specs.SlackValues.{truths_below}
use Rattle.rota_judge.proofs.literals.slack_values.emit_first_true.Given as goal

abbrev pub invariant-loop-index : goal.invariant-loop-index
invariant-loop-index g l = TookLiterals g.T.LiteralTaker (truths_below l.index (λ index. nat_lt index l.fn.maximum)) l.fn.taker l.taker
