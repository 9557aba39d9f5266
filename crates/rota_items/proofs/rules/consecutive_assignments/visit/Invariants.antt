use Rattle.rota_items.proofs.Common.{problem_of, TookItems, concat_below, run_items, shift_runs}
use Rattle.rota_items.proofs.rules.consecutive_assignments.visit.Given as goal

abbrev pub invariant-loop-shift : goal.invariant-loop-shift
invariant-loop-shift g l =
    let problem = problem_of l.fn.instance in
    TookItems g.T.ItemTaker problem (concat_below l.shift (λ s. run_items (shift_runs problem l.fn.nurse s))) l.fn.taker l.taker
