use Rattle.rota_items.proofs.Common.{◌≡◌, ◌++◌, map, problem_of, TookRows, cells_of, h5_row}
use Rattle.rota_items.proofs.hard.held.visit.Given as goal

-- the rows of the cells so far are taken, and the others are left
abbrev pub invariant-loop-cell : goal.invariant-loop-cell
invariant-loop-cell g l =
    let problem = problem_of l.fn.instance in
    record {
      taken : TookRows g.T.RowTaker problem (map h5_row l.yielded) l.fn.taker l.taker;
      left : l.yielded ++ l.cell-iterator ≡ cells_of problem problem.is_held;
    }
