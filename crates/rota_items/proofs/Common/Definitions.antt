-- Definitions that only proofs cite: the lists that takers took, the items of a day's patterns, and bounds.
use Rattle.std.specs.Prelude.{◌+◌, ◌*◌, max}
use Rattle.rota_items.specs.Imports.{ℕ, List, Cell, Problem, Rule, DAYS}
use Rattle.rota_rules.specs.CostBounds.{max_cells_of_nurse}
use Rattle.rota_items.specs.Bounds.{max_weight}
use Rattle.rota_items.specs.SentItems.{numbered_list, numbered_rows}
use Rattle.rota_core.specs.Limits.{max_number, max_nurses}
use Rattle.rota_items.specs.Rows.{Item, LinearRow}
use Rattle.rota_items.specs.RunItems.{Runs, closed_patterns_at, pattern_items}
use Rattle.rota_items.specs.Takes.{TookAll}
use Rattle.rota_items.specs.declared.hard.row_takers.RowTaker as row_taker
use Rattle.rota_items.specs.declared.items.item_takers.ItemTaker as item_taker

-- ---- takers

abbrev pub TookRows : {S F : Type 0} → row_taker.Ghosts S F → Problem → List (LinearRow Cell) → S → S → Type 0
TookRows T problem rows old new = TookAll T.value T.step T.left (numbered_rows problem rows) old new

abbrev pub TookItems : {S F : Type 0} → item_taker.Ghosts S F → Problem → List (Item Cell) → S → S → Type 0
TookItems T problem items old new = TookAll T.value T.step T.left (numbered_list problem items) old new

-- ---- the items of a closed pattern

abbrev pub closed_items_at : {X : Type 0} → Runs X → ℕ → ℕ → List (Item X)
closed_items_at runs d count = pattern_items runs (closed_patterns_at runs.limits.min d count)

-- ---- bounds

-- the maximum number of slacks of each item of a rule
abbrev pub max_slacks : Rule → ℕ
max_slacks Rule.S1 = max_number
max_slacks _ = DAYS

-- the maximum number of cells in an item's sum: of one demand, or of one nurse
abbrev pub max_terms : ℕ
max_terms = max max_nurses max_cells_of_nurse

-- the maximum charge of an item, on a roster that keeps no rule
abbrev pub max_charge : ℕ
max_charge = max_weight * (1 + max_terms)
