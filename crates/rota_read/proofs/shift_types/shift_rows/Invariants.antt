use Rattle.std.proofs.Common.{◌≡◌, ◌-◌, ◌+◌, length}
use Rattle.rota_core.specs.Parts.{bytes_of}
use Rattle.rota_core.specs.ScenarioTables.{reserved}
use Rattle.rota_read.specs.ScenarioLayout.{new_row}
use Rattle.rota_read.specs.ScenarioRows.{shifts_of}
use Rattle.rota_layout.specs.Layout.{repeat}
use Rattle.rota_read.specs.SharedSlots.{pair}
use Rattle.rota_layout.specs.Reading.{read_layout}
use Rattle.rota_read.proofs.shift_types.shift_rows.Given as goal

abbrev pub invariant-loop : goal.invariant-loop
invariant-loop l = record {
  read :
      read_layout (repeat (l.count - l.counter) (new_row reserved pair) (shifts_of l.rows)) l.cursor ≡
      read_layout (repeat l.count (new_row reserved pair) (shifts_of l.fn.rows)) l.fn.cursor;
  longer : length (bytes_of l.rows.names) ≡ length (bytes_of l.fn.rows.names) + l.counter;
}
