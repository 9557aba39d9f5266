-- The meaning of the rows of a history file together.
use Rattle.std.specs.Prelude.{◌≡◌, List, Option, Some, map, unwrap_or}
use Rattle.rota_core.specs.declared.values.Past.{Past}
use Rattle.rota_core.specs.ScenarioTables.{ScenarioTables}
use Rattle.rota_core.specs.Defaults.{no_past}
use Rattle.rota_layout.specs.Tokens.{Token}
use Rattle.rota_read.specs.HistoryLayout.{past}
use Rattle.rota_read.specs.SharedSlots.{value_of_each}
use Rattle.rota_layout.specs.Files.{Fills}

-- The rows give the past of each nurse, so no past is invented.
abbrev pub GivesEachPast : ScenarioTables → Type 0
GivesEachPast tables =
    (front : List Token) (pasts : List (Option Past)) → Fills (value_of_each tables.nurses (past tables.shifts)) front pasts →
    pasts ≡ map Some (map (λ past. unwrap_or past no_past) pasts)
