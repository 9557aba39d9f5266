use Rattle.rota_items.proofs.Common.{arith, problem_of, runs_of, concat_below, both, exits, go_on, loop_ended, loop_refused, stop, items_join, window_items_on}
use Rattle.rota_items.proofs.Common.{pattern_items_on}
use Rattle.rota_items.proofs.ItemLists.{run_items-are}
use Rattle.rota_items.proofs.runs.run_visits.visit_runs.Goals as goal

pub returns-in_err-visit_windows : goal.returns-in_err-visit_windows
returns-in_err-visit_windows g c =
    let runs = runs_of (problem_of c.args.instance.now) c.args.runs in
    exits _ _ _ _ c.from_residual.ensures.0
    (rw (run_items-are runs)
    (stop (items_join _) (concat_below 7 (window_items_on runs)) (concat_below 7 (pattern_items_on runs)) _ _ c.in_err-visit_windows.ensures))

pub returns-in_err-visit_patterns_on : goal.returns-in_err-visit_patterns_on
returns-in_err-visit_patterns_on g c =
    exits _ _ _ _ c.from_residual-in_err-visit_patterns_on.ensures.0
    (rw (run_items-are (runs_of (problem_of c.args.instance.now) c.args.runs))
    (go_on (items_join _) _ _ _ _ _ c.in_ok-visit_windows.ensures
    (loop_refused (items_join _) _ _ _ _ _ _ (omega arith) c.loop-day.invariant c.in_err-visit_patterns_on.ensures)))

pub returns : goal.returns
returns g c =
    rw (run_items-are (runs_of (problem_of c.args.instance.now) c.args.runs))
    (both (items_join _) _ _ _ _ _ c.in_ok-visit_windows.ensures (loop_ended (items_join _) _ _ _ _ _ (omega arith) c.loop-day.invariant))
