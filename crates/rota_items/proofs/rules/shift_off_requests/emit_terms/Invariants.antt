use Rattle.rota_items.proofs.Common.{problem_of, concat_below, request_terms_on}
use Rattle.rota_items.proofs.LoopSteps.{TermSteps}
use Rattle.rota_items.proofs.rules.shift_off_requests.emit_terms.Given as goal

abbrev pub invariant-loop-nurse : goal.invariant-loop-nurse
invariant-loop-nurse g l =
    let problem = problem_of l.fn.instance in
    TermSteps g.T.Taker problem l.nurse problem.nurses (λ n. concat_below 7 (λ d. concat_below problem.shifts (request_terms_on problem n d))) l.fn.taker l.taker
