use Rattle.rota_items.proofs.Common.{problem_of, request_terms_on}
use Rattle.rota_items.proofs.LoopSteps.{TermSteps}
use Rattle.rota_items.proofs.rules.shift_off_requests.emit_terms_of_day.Given as goal

abbrev pub invariant-loop-shift : goal.invariant-loop-shift
invariant-loop-shift g l =
    let problem = problem_of l.fn.instance in
    TermSteps g.T.Taker problem l.shift problem.shifts (request_terms_on problem l.fn.nurse l.fn.day) l.fn.taker l.taker
