-- The charge of the model for a rule, as `rota_judge` uses it.
use Rattle.std.specs.Prelude.{◌*◌, ◌+◌, ◌+ℤ◌}
use Rattle.rota_items.specs.Imports.{ℕ, ℤ, pos, Bool, List, sum_by, Rule, Roster, Problem, sum_below}
use Rattle.rota_core.specs.HardRules.{KeepsMinimum, KeepsOneCell}
use Rattle.rota_items.specs.Rows.{shortage, Item, value_of}
use Rattle.rota_items.specs.rules.TotalAssignments.{assignment_constant_of}
use Rattle.rota_items.specs.rules.WorkedWeekends.{weekend_constant_of}
use Rattle.rota_items.specs.RuleItems.{items_of_rule, constant_of_rule, cell_terms_of_rule}

-- the charge of the items
abbrev pub weighted_shortages : {X : Type 0} → (X → Bool) → List (Item X) → ℕ
weighted_shortages assignment items =
    sum_by (λ item. item.weight * shortage assignment item) items

-- the charge of the model for the rule: its items' weighted shortages, its constant and its terms on cells
abbrev pub model_cost : Problem → Roster → Rule → ℤ
model_cost problem roster rule =
    pos (weighted_shortages roster (items_of_rule problem rule) + constant_of_rule problem rule) +ℤ
    value_of roster (cell_terms_of_rule problem rule)

-- the condition under which a rule's charge is its cost: H2 for S1, none for S4, H1 for the other rules
abbrev pub IsChargedOn : Problem → Roster → Rule → Type 0
IsChargedOn problem roster Rule.S1 = KeepsMinimum problem roster
IsChargedOn problem roster Rule.S4 = Unit {0}
IsChargedOn problem roster _ = KeepsOneCell problem roster

-- the two parts of the constant
abbrev pub constant_of_assignments : Problem → ℕ
constant_of_assignments problem = sum_below problem.nurses (assignment_constant_of problem)

abbrev pub constant_of_weekends : Problem → ℕ
constant_of_weekends problem = sum_below problem.nurses (weekend_constant_of problem)
