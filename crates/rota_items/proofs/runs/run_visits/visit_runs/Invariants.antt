use Rattle.rota_items.proofs.Common.{problem_of, TookItems, runs_of, concat_below, pattern_items_on}
use Rattle.rota_items.proofs.runs.run_visits.visit_runs.Given as goal

abbrev pub invariant-loop-day : goal.invariant-loop-day
invariant-loop-day g l =
    let problem = problem_of l.fn.instance in
    TookItems g.T.ItemTaker problem (concat_below l.day (pattern_items_on (runs_of problem l.fn.runs))) l.initial.taker l.taker
