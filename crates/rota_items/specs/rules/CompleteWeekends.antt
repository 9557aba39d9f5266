-- How the model charges S5: the items of a nurse's weekend.
use Rattle.std.specs.Prelude.{if◌then◌else◌}
use Rattle.rota_items.specs.RunItems.{ℕ, true, List, [], Cell, Problem, Rule, Item, weekend_items}
use Rattle.rota_rules.specs.CompleteWeekends.{complete_weekend_weight}

-- the items of the nurse's weekend, if her contract asks for complete weekends
abbrev pub complete_weekends_of : Problem → ℕ → List (Item Cell)
complete_weekends_of problem n =
    if (problem.contract n).complete then weekend_items Rule.S5 complete_weekend_weight problem n true else []
