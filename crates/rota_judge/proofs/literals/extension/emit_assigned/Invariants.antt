use Rattle.rota_judge.proofs.Common.{problem_of, set_of, assignment_of, TookLiterals}
use Rattle.rota_judge.specs.ExtensionTruths.{truths_to}
use Rattle.rota_judge.proofs.literals.extension.emit_assigned.Given as goal

abbrev pub invariant-loop-index : goal.invariant-loop-index
invariant-loop-index g l =
    TookLiterals g.T.LiteralTaker (truths_to l.index (assignment_of (problem_of l.fn.instance) (set_of l.fn.roster))) l.fn.taker l.taker
