use Rattle.rota_items.proofs.Common.{arith}
use Rattle.rota_items.proofs.EachPattern.{few-run_patterns, length-patterns}
use Rattle.rota_items.proofs.counting.run_counts.patterns_of.Goals as goal

pub overflow_add-result : goal.overflow_add-result
overflow_add-result c =
    let w = c.args in
    omega (arith, few-run_patterns w.history w.limits, length-patterns w.history w.limits, c.closed_patterns_of.ensures, c.edge_patterns_of.ensures)
