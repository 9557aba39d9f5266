use Rattle.std.proofs.Common.{◌≡◌, map, take}
use Rattle.rota_read.specs.ScenarioRows.{nurse_of, contract_column}
use Rattle.rota_read.proofs.nurses.contract_column.Given as goal

abbrev pub invariant-loop-row : goal.invariant-loop-row
invariant-loop-row l = l.column.items ≡ contract_column (map nurse_of (take l.row-index l.rows))
