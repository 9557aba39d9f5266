use Rattle.std.proofs.Common.{◌≡◌, ◌-◌, [], length}
use Rattle.std.specs.List.{All}
use Rattle.rota_layout.specs.Layout.{repeat}
use Rattle.rota_layout.specs.Reading.{read_layout}
use Rattle.rota_read.specs.WeekRows.{request_row, IsRequest}
use Rattle.rota_read.proofs.week.request_rows.Given as goal

abbrev pub invariant-loop : goal.invariant-loop
invariant-loop l = record {
  read :
      read_layout (repeat (l.count - l.counter) (request_row l.scenario) l.rows.items) l.cursor ≡
      read_layout (repeat l.count (request_row l.scenario) []) l.fn.cursor;
  within : All (IsRequest (length l.scenario.nurses) (length l.scenario.shifts)) l.rows.items;
  count : length l.rows.items ≡ l.counter;
}
