use Rattle.rota_items.proofs.Common.{◌<◌, length, sym, ◌∙◌, arith, lt-ltb, ltb-true, problem_of, request_terms_on}
use Rattle.rota_items.proofs.ObjectiveTaking.{some_below}
use Rattle.rota_items.proofs.rules.shift_off_requests.has_terms.Goals as goal

pub returns-then-has_terms_on : goal.returns-then-has_terms_on
returns-then-has_terms_on c =
    let problem = problem_of c.args.instance.now in
    let some : 0 < length (request_terms_on problem c.loop-nurse.nurse c.loop-day.day c.loop-shift.shift) =
    ltb-true 0 _ (sym c.has_terms_on.ensures ∙ c.if-has_terms_on.true) in
    sym (lt-ltb 0 _ (some_below _ _ _ (omega arith) (some_below _ _ _ (omega arith) (some_below _ _ _ (omega arith) some))))
