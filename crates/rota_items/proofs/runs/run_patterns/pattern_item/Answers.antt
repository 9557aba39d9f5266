use Rattle.rota_items.proofs.Common.{refl, days_of, w64, rules, to_z-of_z}
use Rattle.rota_items.proofs.DayPatterns.{plain-of_property}
use Rattle.rota_items.proofs.runs.run_patterns.pattern_item.Goals as goal

pub returns-clause-item : goal.returns-clause-item
returns-clause-item c week =
    let exact = to_z-of_z w64 c.pattern_degree.result (search rules) in
    let plain = plain-of_property week c.args.charge.nurse c.args.charge.property (days_of c.args.pattern) in
    rw (c.from.ensures, c.from-2.ensures, exact, c.pattern_degree.ensures, plain) refl
