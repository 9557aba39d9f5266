use Rattle.rota_items.proofs.Common.{arith, problem_of, runs_of, both, exits, goes_on, loop_ended, loop_refused}
use Rattle.rota_items.proofs.Common.{stop, items_join, no_pattern, pattern_refused, pattern_takes}
use Rattle.rota_items.proofs.ItemLists.{pattern_items-on}
use Rattle.rota_items.proofs.runs.run_visits.visit_patterns_on.Goals as goal

pub returns-in_err-item : goal.returns-in_err-item
returns-in_err-item g c =
    let runs = runs_of (problem_of c.args.instance.now) c.args.runs in
    exits _ _ _ _ c.from_residual.ensures.0
    (rw (pattern_items-on runs c.args.day)
    (stop (items_join _) _ _ _ _
    (loop_refused (items_join _) _ _ _ _ _ _ (omega arith) c.loop-count.invariant
    (pattern_refused g.T.ItemTaker _ c.args.runs.charge _ _ _ (c.pattern_item.ensures.item (problem_of c.args.instance.now))
    c.in-Some.ensures.pattern _ _ c.in_err-item.ensures))))

pub returns-in-Some-edge_before : goal.returns-in-Some-edge_before
returns-in-Some-edge_before g c =
    let runs = runs_of (problem_of c.args.instance.now) c.args.runs in
    rw (pattern_items-on runs c.args.day)
    (goes_on (items_join _) _ _ _ _ _ _ (loop_ended (items_join _) _ _ _ _ _ (omega arith) c.loop-count.invariant)
    (pattern_takes g.T.ItemTaker _ c.args.runs.charge _ _ _ (c.pattern_item-in-Some-edge_before.ensures.item (problem_of c.args.instance.now))
    c.in-Some-edge_before.ensures.pattern _ _ _ c.item-in-Some-edge_before.ensures))

pub returns-in-None : goal.returns-in-None
returns-in-None g c =
    let runs = runs_of (problem_of c.args.instance.now) c.args.runs in
    rw (pattern_items-on runs c.args.day)
    (both (items_join _) _ _ _ _ _ (loop_ended (items_join _) _ _ _ _ _ (omega arith) c.loop-count.invariant)
    (no_pattern g.T.ItemTaker _ c.args.runs.charge _ c.in-None.ensures.pattern _))
