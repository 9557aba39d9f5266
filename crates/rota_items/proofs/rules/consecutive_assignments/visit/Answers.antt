use Rattle.rota_items.proofs.Common.{arith, ap, Runs, Cell, run_items, exits, goes_on, loop_ended, loop_refused, stop, items_join}
use Rattle.rota_items.proofs.rules.consecutive_assignments.visit.Goals as goal

pub returns-in_err-runs : goal.returns-in_err-runs
returns-in_err-runs g c =
    let are = ap (λ (runs : Runs Cell). run_items runs) c.shift_runs-runs.ensures.runs in
    exits _ _ _ _ c.from_residual.ensures.0
    (stop (items_join _) _ _ _ _ (loop_refused (items_join _) _ _ _ _ _ _ (omega arith) c.loop-shift.invariant (rw are at c.in_err-runs.ensures)))

pub returns : goal.returns
returns g c =
    let are = ap (λ (runs : Runs Cell). run_items runs) c.work_runs-runs.ensures.runs in
    goes_on (items_join _) _ _ _ _ _ _ (loop_ended (items_join _) _ _ _ _ _ (omega arith) c.loop-shift.invariant) (rw are at c.runs-2.ensures)
