-- The model of a week, over the numbers of its variables; and the numbers of the slacks of items.
use Rattle.std.specs.Prelude.{◌+◌, ◌∷◌, ◌++◌, ◌-◌}
use Rattle.rota_items.specs.Imports.{ℕ, pos, nat_lt, List, [], map, sum_by, range_with_len, Cell, Problem, Unit}
use Rattle.rota_items.specs.Rows.{Term, Constraint, Model, LinearRow, Hard, Soft, linear_constraint, times, Item, numbered, cell_at}
use Rattle.rota_items.specs.Rows.{singleton_if}
use Rattle.rota_items.specs.Variables.{cell_number, unit_number}
use Rattle.rota_items.specs.HardRows.{rule_rows}
use Rattle.rota_items.specs.RuleItems.{soft_items, cell_terms, constant}

-- the constant as a term on the unit variable, unless it is 0
abbrev pub constant_terms : Problem → List (Term ℕ)
constant_terms problem = singleton_if (nat_lt 0 (constant problem)) (pos (constant problem), unit_number problem)

-- the terms with the number of each cell
abbrev pub numbered_terms : Problem → List (Term Cell) → List (Term ℕ)
numbered_terms problem terms = map (λ (term : Term Cell). (term.0, cell_number problem term.1)) terms

-- the row with the number of each cell
abbrev pub numbered_row : Problem → LinearRow Cell → LinearRow ℕ
numbered_row problem row = record { part = row.part; terms = numbered_terms problem row.terms; degree = row.degree }

-- the row that forces the unit variable to be true
abbrev pub unit_row : ℕ → LinearRow ℕ
unit_row unit = record { part = Hard Unit; terms = (pos 1, unit) ∷ []; degree = pos 1 }

-- the row of the unit variable, then the rows of the hard rules
abbrev pub hard_rows : Problem → List (LinearRow ℕ)
hard_rows problem = unit_row (unit_number problem) ∷ map (numbered_row problem) (rule_rows problem)

-- the constraints of these rows
abbrev pub hard_constraints : Problem → List Constraint
hard_constraints problem = map linear_constraint (hard_rows problem)

-- the items of all soft rules, with the number of each cell
abbrev pub numbered_items : Problem → List (Item ℕ)
numbered_items problem = map (numbered (cell_number problem)) (soft_items problem)

-- the number of the first slack; the items' slacks follow the unit variable
abbrev pub first_slack : Problem → ℕ
first_slack problem = unit_number problem + 1

-- an item's slacks, if the first has this number
abbrev pub slack_variables : Item ℕ → ℕ → List ℕ
slack_variables item first = range_with_len first item.slacks

-- an item's row: its terms and its slacks sum to at least the degree
abbrev pub item_row : Item ℕ → ℕ → LinearRow ℕ
item_row item first = record {
  part = Soft item.rule item.weight;
  terms = item.terms ++ times (pos 1) (slack_variables item first);
  degree = item.degree;
}

-- the items' rows; their slacks follow one another from the first on
abbrev pub item_rows : ℕ → List (Item ℕ) → List (LinearRow ℕ)
item_rows first [] = []
item_rows first (item ∷ items) = item_row item first ∷ item_rows (first + item.slacks) items

-- the rows of the hard rules, then the rows of the items
abbrev pub rows_of : Problem → List (LinearRow ℕ)
rows_of problem = hard_rows problem ++ item_rows (first_slack problem) (numbered_items problem)

-- the terms of the slacks, each with its item's weight
abbrev pub slack_weights : ℕ → List (Item ℕ) → List (Term ℕ)
slack_weights first [] = []
slack_weights first (item ∷ items) =
    times (pos item.weight) (slack_variables item first) ++
    slack_weights (first + item.slacks) items

-- the terms of the objective: the rules' terms on cells, the constant and the slacks
abbrev pub objective_terms : Problem → List (Term ℕ)
objective_terms problem =
    numbered_terms problem (cell_terms problem) ++
    (constant_terms problem ++ slack_weights (first_slack problem) (numbered_items problem))

-- the number of all slacks of these items
abbrev pub slack_count : {X : Type 0} → List (Item X) → ℕ
slack_count items = sum_by (λ item. item.slacks) items

-- the model of a week: the number of its variables, its objective and its constraints
abbrev pub model_of : Problem → Model
model_of problem = record {
  variables = unit_number problem + slack_count (soft_items problem);
  objective = objective_terms problem;
  constraints = map linear_constraint (rows_of problem);
}

-- the cell of a variable
abbrev pub cell_of_number : Problem → ℕ → Cell
cell_of_number problem v = cell_at problem.shifts problem.skills (v - 1)
