use Rattle.rota_items.proofs.Common.{w64, rules, arith, to_z-of_z, on_cells-range}
use Rattle.rota_items.proofs.sums.emit_on.Goals as goal

pub returns : goal.returns
returns g c = grind (arith, on_cells-range, to_z-of_z w64 c.coefficient.result (search rules))
