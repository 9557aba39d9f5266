use Rattle.std.proofs.Common.{◌≡◌, ◌-◌}
use Rattle.rota_core.specs.Parts.{bytes_of}
use Rattle.rota_layout.specs.Layout.{repeat}
use Rattle.rota_read.specs.ScenarioRows.{index_row}
use Rattle.rota_layout.specs.Reading.{read_layout}
use Rattle.rota_read.proofs.rows.index_rows.Given as goal

abbrev pub invariant-loop : goal.invariant-loop
invariant-loop l =
    read_layout (repeat (l.count - l.counter) (index_row (bytes_of l.names)) l.indices.items) l.cursor ≡
    read_layout (repeat l.count (index_row (bytes_of l.names)) l.fn.indices.items) l.fn.cursor
