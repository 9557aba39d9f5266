use Rattle.rota_items.proofs.Common.{◌≡◌, length, problem_of, concat_below, request_terms_on}
use Rattle.rota_items.proofs.rules.shift_off_requests.has_terms.Given as goal

abbrev pub invariant-loop-nurse : goal.invariant-loop-nurse
invariant-loop-nurse l =
    let problem = problem_of l.fn.instance in
    length (concat_below l.nurse (λ n. concat_below 7 (λ d. concat_below problem.shifts (request_terms_on problem n d)))) ≡ 0

abbrev pub invariant-loop-day : goal.invariant-loop-day
invariant-loop-day l =
    let problem = problem_of l.fn.instance in
    length (concat_below l.day (λ d. concat_below problem.shifts (request_terms_on problem l.nurse d))) ≡ 0

abbrev pub invariant-loop-shift : goal.invariant-loop-shift
invariant-loop-shift l = length (concat_below l.shift (request_terms_on (problem_of l.fn.instance) l.nurse l.day)) ≡ 0
