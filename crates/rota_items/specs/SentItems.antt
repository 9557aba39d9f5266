-- The meaning of the values that a walk sends.
use Rattle.std.specs.Prelude.{ℕ, List, map}
use Rattle.rota_core.specs.declared.values.Cell.{Cell}
use Rattle.rota_core.specs.Problem.{Problem}
use Rattle.rota_items.specs.CellSums.{property_of, sum_terms}
use Rattle.rota_items.specs.Rows.{Item, LinearRow, Hard, numbered}
use Rattle.rota_items.specs.RunItems.{Runs, pattern_item, Pattern}
use Rattle.rota_items.specs.Variables.{cell_number}
use Rattle.rota_items.specs.WeekModel.{numbered_row}
use Rattle.rota_items.specs.declared.hard.row_takers.HardRow.{HardRow}
use Rattle.rota_items.specs.declared.items.soft_item.NurseRuns.{NurseRuns}
use Rattle.rota_items.specs.declared.items.soft_item.RunCharge.{RunCharge}
use Rattle.rota_items.specs.declared.items.soft_item.SoftItem.{SoftItem}

abbrev pub item_of : Problem → SoftItem → Item Cell
item_of problem item = record {
  rule = item.rule;
  weight = item.weight;
  slacks = item.slacks;
  terms = sum_terms problem item.sum;
  degree = item.degree;
}

-- the item, and items, with the numbers of their variables
abbrev pub numbered_item : Problem → SoftItem → Item ℕ
numbered_item problem item = numbered (cell_number problem) (item_of problem item)

unfoldable pub numbered_list : Problem → List (Item Cell) → List (Item ℕ)
numbered_list problem items = map (numbered (cell_number problem)) items

-- rows, with the numbers of their variables
unfoldable pub numbered_rows : Problem → List (LinearRow Cell) → List (LinearRow ℕ)
numbered_rows problem rows = map (numbered_row problem) rows

-- the row of a hard rule
abbrev pub hard_row_of : Problem → HardRow → LinearRow Cell
hard_row_of problem row = record { part = Hard row.rule; terms = sum_terms problem row.sum; degree = row.degree }

-- the items that charge these patterns
abbrev pub charged_items : Problem → RunCharge → List Pattern → List (Item Cell)
charged_items problem charge patterns =
    map (pattern_item charge.rule charge.weight (property_of problem charge.nurse charge.property)) patterns

abbrev pub runs_of : Problem → NurseRuns → Runs Cell
runs_of problem runs = record {
  rule = runs.charge.rule;
  weight = runs.charge.weight;
  property = property_of problem runs.charge.nurse runs.charge.property;
  history = runs.history;
  limits = runs.limits;
}
