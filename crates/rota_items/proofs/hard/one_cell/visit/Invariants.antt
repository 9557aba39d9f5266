use Rattle.rota_items.proofs.Common.{problem_of, [], ◌∷◌, concat_below, h1_row}
use Rattle.rota_items.proofs.LoopSteps.{RowSteps}
use Rattle.rota_items.proofs.hard.one_cell.visit.Given as goal

abbrev pub invariant-loop-nurse : goal.invariant-loop-nurse
invariant-loop-nurse g l =
    let problem = problem_of l.fn.instance in
    RowSteps g.T.RowTaker problem l.nurse problem.nurses (λ n. concat_below 7 (λ d. h1_row problem n d ∷ [])) l.fn.taker l.taker
