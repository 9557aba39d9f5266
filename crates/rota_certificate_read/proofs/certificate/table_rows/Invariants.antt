use Rattle.std.proofs.Common.{◌≡◌, ◌-◌, []}
use Rattle.rota_certificate_read.specs.CertificateLayout.{table_row}
use Rattle.rota_layout.specs.Layout.{repeat}
use Rattle.rota_layout.specs.Reading.{read_layout}
use Rattle.rota_certificate_read.proofs.certificate.table_rows.Given as goal

abbrev pub invariant-loop : goal.invariant-loop
invariant-loop l =
    read_layout (repeat (l.weeks - l.counter) (table_row l.scenario) l.tables.items) l.cursor ≡
    read_layout (repeat l.weeks (table_row l.scenario) []) l.fn.cursor
