use Rattle.std.proofs.Common.{◌≡◌, ◌-◌, length}
use Rattle.rota_core.specs.Parts.{bytes_of}
use Rattle.rota_read.specs.ScenarioLayout.{known_names}
use Rattle.rota_read.specs.ScenarioRows.{successions_of}
use Rattle.rota_layout.specs.Layout.{repeat}
use Rattle.rota_read.specs.SharedSlots.{known_row}
use Rattle.rota_layout.specs.Reading.{read_layout}
use Rattle.rota_read.proofs.shift_types.rows_of_shifts.Given as goal

abbrev pub invariant-loop : goal.invariant-loop
invariant-loop l =
    let row = known_row (bytes_of l.names) (known_names (bytes_of l.names)) in
    read_layout (repeat (length l.fn.rows - l.counter) row (successions_of l.rows)) l.cursor ≡
    read_layout (repeat (length l.fn.rows) row (successions_of l.fn.rows)) l.fn.cursor
