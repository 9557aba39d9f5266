-- The constraints of items, apart from any week.
use Rattle.std.specs.Prelude.{◌<◌}
use Rattle.rota_judge.specs.Imports.{ℕ, List, map, All}
use Rattle.rota_items.specs.Rows.{Term, Constraint, linear_constraint, Item}
use Rattle.rota_items.specs.WeekModel.{item_row, item_rows}

abbrev pub item_constraint : Item ℕ → ℕ → Constraint
item_constraint item first = linear_constraint (item_row item first)

abbrev pub item_constraints : ℕ → List (Item ℕ) → List Constraint
item_constraints first items = map linear_constraint (item_rows first items)

-- each variable of the items' terms is below this number
abbrev pub AreBelow : ℕ → List (Item ℕ) → Type 0
AreBelow first items = All (λ item. All (λ (term : Term ℕ). term.1 < first) item.terms) items
