use Rattle.std.proofs.Common.{◌≡◌, ◌++◌, map, take}
use Rattle.std.specs.List.{flat_map, range_with_len}
use Rattle.rota_layout.specs.DayRows.{value_on}
use Rattle.rota_layout.proofs.day_rows.day_table.Given as goal

abbrev pub invariant-loop-day : goal.invariant-loop-day
invariant-loop-day g l = l.table.items ≡ flat_map (λ day. map (value_on l.absent day) l.rows) (range_with_len 0 l.day)

abbrev pub invariant-loop-row : goal.invariant-loop-row
invariant-loop-row g l = l.table.items ≡ l.initial.table.items ++ map (value_on l.absent l.day) (take l.row-index l.rows)
