use Rattle.rota_items.proofs.Common.{◌∷◌, [], map, subst, problem_of, h5_row, exits, go_on, stop, numbered_rows, RefusedOne, Refused-one, held_join}
use Rattle.rota_items.proofs.hard.held.visit.Goals as goal

pub returns-in_err-row : goal.returns-in_err-row
unfolding numbered_rows
returns-in_err-row g c =
    let T = g.T.RowTaker in
    let problem = problem_of c.args.instance.now in
    let left = rw c.in-Some.ensures.steps at c.loop-cell.invariant.left in
    exits _ _ _ _ c.from_residual.ensures.0
    (subst (λ cells. RefusedOne T.value T.step T.left (numbered_rows problem (map h5_row cells)) c.args.taker.now c.row.new.self) left
    (go_on (held_join problem) c.loop-cell.yielded (c.in-Some.cell ∷ c.next.new.self) _ _ _ c.loop-cell.invariant.taken
    (stop (held_join problem) (c.in-Some.cell ∷ []) c.next.new.self _ _ (Refused-one _ _ _ c.in_err-row.ensures))))
