use Rattle.solver_text.proofs.TruthLaws.{true-by_literal}
use Rattle.solver_text.proofs.laws.positive_literals_make_true.Goals as goal

pub returns : goal.returns
returns c = true-by_literal
