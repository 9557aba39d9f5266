use Rattle.rota_items.proofs.Common.{problem_of, concat_below, request_terms_on}
use Rattle.rota_items.proofs.LoopSteps.{TermSteps}
use Rattle.rota_items.proofs.rules.shift_off_requests.emit_terms_of_nurse.Given as goal

abbrev pub invariant-loop-day : goal.invariant-loop-day
invariant-loop-day g l =
    let problem = problem_of l.fn.instance in
    TermSteps g.T.Taker problem l.day 7 (λ d. concat_below problem.shifts (request_terms_on problem l.fn.nurse d)) l.fn.taker l.taker
