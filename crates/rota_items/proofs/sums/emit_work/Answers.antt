use Rattle.rota_items.proofs.Common.{w64, rules, to_z-of_z, problem_of, coefficient_of, work_cells-range}
use Rattle.rota_items.proofs.sums.emit_work.Goals as goal

pub returns : goal.returns
returns g c =
    let w = c.args in
    let given = rw (to_z-of_z w64 c.coefficient.result (search rules), c.coefficient.ensures) at c.emit_range.ensures in
    rw (work_cells-range (problem_of w.instance.now) (coefficient_of w.sign) w.nurse w.day)
    (rw (c.first_var_on-first.ensures.number, c.cells_of_day.ensures.count) at given)
