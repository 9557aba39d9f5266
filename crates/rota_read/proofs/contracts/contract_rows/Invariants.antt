use Rattle.std.proofs.Common.{◌≡◌, ◌-◌, ◌+◌, [], length}
use Rattle.rota_core.specs.Parts.{bytes_of}
use Rattle.rota_read.specs.ScenarioLayout.{contract, new_row}
use Rattle.rota_read.specs.ScenarioRows.{contracts_of}
use Rattle.rota_layout.specs.Layout.{repeat}
use Rattle.rota_layout.specs.Reading.{read_layout}
use Rattle.rota_read.proofs.contracts.contract_rows.Given as goal

abbrev pub invariant-loop : goal.invariant-loop
invariant-loop l = record {
  read :
      read_layout (repeat (l.count - l.counter) (new_row [] contract) (contracts_of l.rows)) l.cursor ≡
      read_layout (repeat l.count (new_row [] contract) (contracts_of l.fn.rows)) l.fn.cursor;
  longer : length (bytes_of l.rows.names) ≡ length (bytes_of l.fn.rows.names) + l.counter;
}
