use Rattle.rota_items.proofs.Common.{problem_of, TookItems, runs_of, concat_below, closed_items_at}
use Rattle.rota_items.proofs.runs.run_visits.visit_patterns_on.Given as goal

abbrev pub invariant-loop-count : goal.invariant-loop-count
invariant-loop-count g l =
    let problem = problem_of l.fn.instance in
    TookItems g.T.ItemTaker problem (concat_below l.count (closed_items_at (runs_of problem l.fn.runs) l.fn.day)) l.fn.taker l.taker
