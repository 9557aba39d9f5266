use Rattle.std.proofs.Common.{◌≡◌, ◌-◌}
use Rattle.rota_layout.specs.Layout.{repeat}
use Rattle.rota_certificate_read.specs.PricesLayout.{price_row}
use Rattle.rota_layout.specs.Reading.{read_layout}
use Rattle.rota_certificate_read.proofs.prices.price_rows.Given as goal

abbrev pub invariant-loop : goal.invariant-loop
invariant-loop l =
    read_layout (repeat (l.count - l.counter) (price_row l.scenario) l.rows) l.cursor ≡
    read_layout (repeat l.count (price_row l.scenario) l.fn.rows) l.fn.cursor
