use Rattle.std.proofs.Common.{◌≡◌, ◌-◌}
use Rattle.rota_read.specs.HistoryLayout.{past}
use Rattle.rota_layout.specs.Layout.{repeat}
use Rattle.rota_read.specs.SharedSlots.{known_row}
use Rattle.rota_layout.specs.Reading.{read_layout}
use Rattle.rota_read.proofs.history.rows_of_nurses.Given as goal

abbrev pub invariant-loop : goal.invariant-loop
invariant-loop l =
    read_layout (repeat (l.count - l.counter) (known_row l.scenario.nurses (past l.scenario.shifts)) l.pasts) l.cursor ≡
    read_layout (repeat l.count (known_row l.scenario.nurses (past l.scenario.shifts)) l.fn.pasts) l.fn.cursor
