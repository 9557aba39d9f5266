-- The shift types that may not follow the last shift of a history.
use Rattle.std.specs.Prelude.{ℕ, Bool, false, Option, Some, None}
use Rattle.rota_core.specs.Problem.{Problem}

-- whether the shift type may not follow the last shift of the history
abbrev pub is_forbidden_after : Problem → Option ℕ → ℕ → Bool
is_forbidden_after problem None t = false
is_forbidden_after problem (Some last) t = problem.is_forbidden last t
