use Rattle.std.proofs.Common.{◌≡◌, take}
use Rattle.rota_read.specs.ScenarioRows.{forbidden_table, successions_of}
use Rattle.rota_read.proofs.shift_types.append_forbidden.Given as goal

abbrev pub invariant-loop-row : goal.invariant-loop-row
invariant-loop-row l = l.table.items ≡ forbidden_table l.size (successions_of (take l.row-index l.rows))
