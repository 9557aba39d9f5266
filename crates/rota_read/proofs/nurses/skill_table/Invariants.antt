use Rattle.std.proofs.Common.{◌≡◌, map, take}
use Rattle.rota_read.specs.ScenarioRows.{nurse_of, skill_table}
use Rattle.rota_read.proofs.nurses.skill_table.Given as goal

abbrev pub invariant-loop-row : goal.invariant-loop-row
invariant-loop-row l = l.table.items ≡ skill_table l.size (map nurse_of (take l.row-index l.rows))
