-- The weeks that have the items and the constant of the maximum totals.
use Rattle.std.specs.Prelude.{◌&&◌, ◌||◌}
use Rattle.rota_items.specs.Imports.{Bool, not, Problem}

-- whether the maximum totals have items in this week: in the last week, and with `--early` in every week
abbrev pub max_totals_count : Problem → Bool
max_totals_count problem = problem.is_last || problem.is_early

-- whether this week pays for the excess of earlier weeks: in the last week, unless with `--early` they have paid for it
abbrev pub excess_before_counts : Problem → Bool
excess_before_counts problem = problem.is_last && not problem.is_early
