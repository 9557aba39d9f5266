-- How the model charges S4: by terms of the objective on the cells, with no item.
use Rattle.std.specs.Prelude.{◌*◌}
use Rattle.rota_items.specs.Rows.{DAYS, ℕ, pos, nat_lt, List, Cell, cell, Problem, concat_below, singleton_if, Term}
use Rattle.rota_rules.specs.ShiftOffRequests.{request_weight}

-- the terms of a nurse's day on a shift type
abbrev pub request_terms_on : Problem → (nurse day shift : ℕ) → List (Term Cell)
request_terms_on problem n d s =
    concat_below problem.skills (λ k.
    singleton_if (nat_lt 0 (problem.requests n d s)) (pos (request_weight * problem.requests n d s), cell n d s k))

-- the terms of all nurses, days and shift types
abbrev pub request_terms : Problem → List (Term Cell)
request_terms problem =
    concat_below problem.nurses (λ n. concat_below DAYS (λ d. concat_below problem.shifts (request_terms_on problem n d)))
