-- S4, requests: cells that request rows ask to leave free.
use Rattle.std.specs.Prelude.{◌*◌, if◌then◌else◌}
use Rattle.rota_rules.specs.Imports.{DAYS, ℕ, sum_below, Roster, cell, Problem}

-- the weight of each pair of a cell and a request row that asks to leave it free
abbrev pub request_weight : ℕ
request_weight = 10

-- the cost of all pairs of a cell of the roster and a request row that asks to leave it free
abbrev pub request_cost : Problem → Roster → ℕ
request_cost problem roster =
    request_weight * sum_below problem.nurses (λ n. sum_below DAYS (λ d. sum_below problem.shifts (λ s. sum_below problem.skills (λ k.
    if roster (cell n d s k) then problem.requests n d s else 0))))
