use Rattle.rota_items.proofs.Common.{w64, rules, to_z-of_z, problem_of, coefficient_of, nurse_cells-range}
use Rattle.rota_items.proofs.sums.emit_nurse_cells.Goals as goal

pub returns : goal.returns
returns g c =
    let given = rw (to_z-of_z w64 c.coefficient.result (search rules), c.coefficient.ensures) at c.emit_range.ensures in
    rw (nurse_cells-range (problem_of c.args.instance.now) (coefficient_of c.args.sign) c.args.nurse)
    (rw (c.first_var_on-first.ensures.number, c.from.ensures, c.shifts.ensures.count, c.from-2.ensures, c.skills.ensures.count) at given)
