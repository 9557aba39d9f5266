use Rattle.rota_items.proofs.Common.{arith, problem_of, exits, loop_refused, items_join, pattern_refused}
use Rattle.rota_items.proofs.runs.run_visits.visit_windows.Goals as goal

pub returns-in_err-item : goal.returns-in_err-item
returns-in_err-item g c =
    exits _ _ _ _ c.from_residual.ensures.0
    (loop_refused (items_join _) _ _ _ _ _ _ (omega arith) c.loop-day.invariant
    (pattern_refused g.T.ItemTaker _ c.args.runs.charge _ _ _ (c.pattern_item.ensures.item (problem_of c.args.instance.now))
    c.in-Some.ensures.pattern _ _ c.in_err-item.ensures))
