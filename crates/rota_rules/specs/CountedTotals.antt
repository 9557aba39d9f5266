-- The excess over a maximum for which a week pays.
use Rattle.std.specs.Prelude.{◌+◌, ◌-◌, if◌then◌else◌}
use Rattle.rota_rules.specs.Imports.{ℕ, Problem}

-- the excess that this week adds: the excess of `before + now` over the maximum, less the excess already in `before`
abbrev pub added_excess : (maximum before now : ℕ) → ℕ
added_excess maximum before now = (before + now - maximum) - (before - maximum)

-- with `--early` each week pays for the excess that it adds; without it the last week pays for the whole excess, and no other week pays
abbrev pub charged_excess : Problem → (maximum before now : ℕ) → ℕ
charged_excess problem maximum before now =
    (if problem.is_early then added_excess maximum before now else (if problem.is_last then before + now - maximum else 0))
