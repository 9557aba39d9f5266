use Rattle.rota_items.proofs.Common.{flat_map, problem_of, cell_term_events, property_of, day_terms, Took, days_with}
use Rattle.rota_items.proofs.sum_terms.emit_days.Given as goal

abbrev pub invariant-loop-day : goal.invariant-loop-day
invariant-loop-day g l =
    let problem = problem_of l.fn.instance in
    Took g.T.Taker
    (cell_term_events problem (flat_map (day_terms (property_of problem l.fn.nurse l.fn.property)) (days_with l.fn.first l.day)))
    l.fn.taker l.taker
