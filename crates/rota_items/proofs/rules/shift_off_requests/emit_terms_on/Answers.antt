use Rattle.rota_items.proofs.Common.{w64, rules, arith, to_z-of_z, problem_of, requests-range}
use Rattle.rota_items.proofs.ObjectiveTaking.{cell_terms_nowhere}
use Rattle.rota_items.proofs.rules.shift_off_requests.emit_terms_on.Goals as goal

pub returns-then-requests-eq0 : goal.returns-then-requests-eq0
returns-then-requests-eq0 g c = cell_terms_nowhere g.T.Taker _ _ _ _ _ (grind arith)

pub returns : goal.returns
returns g c =
    let w = c.args in
    let exact = to_z-of_z w64 c.from.result (search rules) in
    let given = rw (exact, c.from.ensures, c.weight_of-weight.ensures, c.requests-requests.ensures) at c.emit_range.ensures in
    rw (requests-range (problem_of w.instance.now) w.nurse w.day w.shift (omega arith))
    (rw (c.first_var_on-first.ensures.number, c.from-2.ensures, c.skills.ensures.count) at given)
