-- The pair of a shift type and a skill in a row of days.
use Rattle.rota_layout.specs.Layout.{ℕ, List, Option, length, Layout, end, ◌>>=◌, known_name, has_row}
use Rattle.rota_layout.specs.DayRows.{pair_index}

-- a skill that no earlier row has with the shift type; the value is the index of the two
unfoldable pub new_pair : {A : Type 0} → List (List ℕ) → ℕ → List (Option A) → Layout ℕ
new_pair skills shift rows = do
  skill ← known_name skills (λ skill. has_row rows (pair_index (length skills) shift skill))
  end (pair_index (length skills) shift skill)
