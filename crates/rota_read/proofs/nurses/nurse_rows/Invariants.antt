use Rattle.std.proofs.Common.{◌≡◌, ◌-◌, []}
use Rattle.rota_core.specs.Parts.{bytes_of}
use Rattle.rota_read.specs.ScenarioLayout.{new_row, nurse}
use Rattle.rota_read.specs.ScenarioRows.{nurses_of}
use Rattle.rota_layout.specs.Layout.{repeat}
use Rattle.rota_layout.specs.Reading.{read_layout}
use Rattle.rota_read.proofs.nurses.nurse_rows.Given as goal

abbrev pub invariant-loop : goal.invariant-loop
invariant-loop l =
    let row = new_row [] (nurse (bytes_of l.contracts) (bytes_of l.skills)) in
    read_layout (repeat (l.count - l.counter) row (nurses_of l.rows)) l.cursor ≡
    read_layout (repeat l.count row (nurses_of l.fn.rows)) l.fn.cursor
