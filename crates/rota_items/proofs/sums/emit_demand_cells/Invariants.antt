use Rattle.rota_items.proofs.Common.{[], ◌∷◌, problem_of, sum_events, concat_below, Took, cell, Plus}
use Rattle.rota_items.proofs.sums.emit_demand_cells.Given as goal

abbrev pub invariant-loop-nurse : goal.invariant-loop-nurse
invariant-loop-nurse g l =
    let problem = problem_of l.fn.instance in
    Took g.T.Taker (sum_events problem Plus (concat_below l.nurse (λ n. cell n l.fn.day l.fn.shift l.fn.skill ∷ []))) l.fn.taker l.taker
