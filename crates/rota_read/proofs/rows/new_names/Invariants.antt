use Rattle.std.proofs.Common.{◌≡◌, ◌-◌, ◌+◌, length}
use Rattle.rota_core.specs.Parts.{bytes_of}
use Rattle.rota_layout.specs.Layout.{repeat, one_more}
use Rattle.rota_read.specs.SharedSlots.{new_name}
use Rattle.rota_layout.specs.Reading.{read_layout}
use Rattle.rota_read.proofs.rows.new_names.Given as goal

abbrev pub invariant-loop : goal.invariant-loop
invariant-loop l = record {
  read :
      read_layout (repeat (l.count - l.counter) (one_more new_name) (bytes_of l.names)) l.cursor ≡
      read_layout (repeat l.count (one_more new_name) (bytes_of l.fn.names)) l.fn.cursor;
  longer : length (bytes_of l.names) ≡ length (bytes_of l.fn.names) + l.counter;
}
