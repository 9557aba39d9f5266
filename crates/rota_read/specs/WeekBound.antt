-- The bound on the rows of requirements cuts off no row.
use Rattle.std.specs.Prelude.{◌≡◌, ℕ, ◌+◌}
use Rattle.rota_core.specs.ScenarioTables.{ScenarioTables}
use Rattle.rota_layout.specs.Reading.{Reading, read_layout}
use Rattle.rota_layout.specs.DayRows.{no_day_rows}
use Rattle.rota_read.specs.WeekLayout.{max_rows, requirement_rows}

-- With any larger bound the same rows, or the same fault, are read from every text.
abbrev pub BoundEndsNoRows : Type 0
BoundEndsNoRows =
    (t : ScenarioTables) (more : ℕ) (left : Reading) →
    read_layout (requirement_rows t (max_rows t + more) (no_day_rows t)) left ≡
    read_layout (requirement_rows t (max_rows t) (no_day_rows t)) left
