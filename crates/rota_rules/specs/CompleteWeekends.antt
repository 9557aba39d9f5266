-- S5, complete weekends: nurses whose contracts ask for complete weekends, but who work on exactly one of Saturday and Sunday.
use Rattle.std.specs.Prelude.{◌&&◌, ◌||◌, if◌then◌else◌}
use Rattle.rota_rules.specs.Imports.{ℕ, Bool, not, works, Roster, Problem}

-- the weight of each such weekend of a nurse
abbrev pub complete_weekend_weight : ℕ
complete_weekend_weight = 30

-- whether exactly one of the two is true
abbrev pub exactly_one : Bool → Bool → Bool
exactly_one x y = (x && not y) || (not x && y)

-- the cost of a nurse's weekend: the weight if her contract asks for complete weekends and she works on exactly one of its days
abbrev pub complete_weekend_cost_of : Problem → Roster → ℕ → ℕ
complete_weekend_cost_of problem roster n =
    (if (problem.contract n).complete && exactly_one (works problem roster n 5) (works problem roster n 6)
    then complete_weekend_weight else 0)
