use Rattle.rota_items.proofs.Common.{problem_of, [], ◌∷◌, h1_row}
use Rattle.rota_items.proofs.LoopSteps.{RowSteps}
use Rattle.rota_items.proofs.hard.one_cell.visit_nurse.Given as goal

abbrev pub invariant-loop-day : goal.invariant-loop-day
invariant-loop-day g l =
    let problem = problem_of l.fn.instance in
    RowSteps g.T.RowTaker problem l.day 7 (λ d. h1_row problem l.fn.nurse d ∷ []) l.fn.taker l.taker
