use Rattle.std.proofs.Common.{◌≡◌, take}
use Rattle.rota_read.specs.WeekRows.{index_table}
use Rattle.rota_read.proofs.week_tables.requests_of.Given as goal

abbrev pub invariant-loop-row : goal.invariant-loop-row
invariant-loop-row l = l.table.items ≡ index_table l.nurses l.shifts (take l.row-index l.rows)
