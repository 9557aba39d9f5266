-- The pasts of the nurses before a week.
use Rattle.std.specs.Prelude.{◌≡◌, List, length}
use Rattle.std.specs.List.{AllByRecursion}
use Rattle.rota_core.specs.InstanceTables.{InstanceTables}
use Rattle.rota_core.specs.Sizes.{Numbers}
use Rattle.rota_core.specs.WeekTables.{IsPast}
use Rattle.rota_core.specs.declared.values.Past.{Past}

-- there is one past for each nurse, within its limits
pub record ArePasts (numbers : Numbers) (pasts : List Past) : Type 0 where
  pub count : length pasts ≡ numbers.nurses
  pub each : AllByRecursion (IsPast numbers.shifts) pasts

-- the tables, with these pasts in the history
abbrev pub with_pasts : InstanceTables → List Past → InstanceTables
with_pasts t pasts = record t { history = record t.history { past = pasts } }
