use Rattle.rota_items.proofs.Common.{[], cell, ◌∷◌, problem_of, sum_events, concat_below, Took, Minus}
use Rattle.rota_items.proofs.sums.emit_skill_cells.Given as goal

abbrev pub invariant-loop-day : goal.invariant-loop-day
invariant-loop-day g l =
    let problem = problem_of l.fn.instance in
    Took g.T.Taker (sum_events problem Minus (concat_below l.day (λ d. concat_below problem.shifts (λ s. cell l.fn.nurse d s l.fn.skill ∷ [])))) l.fn.taker l.taker

abbrev pub invariant-loop-shift : goal.invariant-loop-shift
invariant-loop-shift g l =
    let problem = problem_of l.fn.instance in
    Took g.T.Taker (sum_events problem Minus (concat_below l.shift (λ s. cell l.fn.nurse l.day s l.fn.skill ∷ []))) l.initial.taker l.taker
