use Rattle.rota_items.proofs.Common.{arith, ints}
use Rattle.rota_items.proofs.runs.run_patterns.pattern_degree.Goals as goal

pub returns : goal.returns
returns c = omega (arith, ints, c.from.ensures, c.plain_days.ensures.count)
