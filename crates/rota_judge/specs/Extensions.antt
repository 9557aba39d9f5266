-- The extension of a roster: its assignment to the variables of a week's model, and the slacks that the items need.
use Rattle.std.specs.Prelude.{ℕ, ◌-◌, Bool, true, false, ◌&&◌, ◌==◌, nat_lt, if◌then◌else◌, List, [], ◌∷◌}
use Rattle.rota_core.specs.Problem.{Problem}
use Rattle.rota_core.specs.Roster.{Roster}
use Rattle.rota_items.specs.Rows.{Item, shortage}
use Rattle.rota_items.specs.Variables.{unit_number}
use Rattle.rota_items.specs.WeekModel.{cell_of_number, first_slack, numbered_items}

-- the assignment in which the unit variable and the variables of the roster's cells are true
abbrev pub assignment_of : Problem → Roster → ℕ → Bool
assignment_of problem roster v =
    (if v == unit_number problem
    then true
    else nat_lt 0 v && (nat_lt v (unit_number problem) && roster (cell_of_number problem v)))

-- whether a slack is one of the first of its item, up to the shortage; slacks are numbered from 0
abbrev pub is_slack_needed : (ℕ → Bool) → List (Item ℕ) → ℕ → Bool
is_slack_needed assignment [] slack = false
is_slack_needed assignment (item ∷ items) slack =
    (if nat_lt slack item.slacks
    then nat_lt slack (shortage assignment item)
    else is_slack_needed assignment items (slack - item.slacks))

-- the assignment below the first slack, and the slacks that the items need
abbrev pub extension : (ℕ → Bool) → ℕ → List (Item ℕ) → ℕ → Bool
extension assignment first items v =
    (if nat_lt v first then assignment v else is_slack_needed assignment items (v - first))

-- the extension of a roster: its assignment, and the slacks that the items need
abbrev pub extension_of : Problem → Roster → ℕ → Bool
extension_of problem roster = extension (assignment_of problem roster) (first_slack problem) (numbered_items problem)
