use Rattle.std.proofs.Common.{◌≡◌, ◌-◌, []}
use Rattle.rota_certificate_read.specs.CertificateLayout.{surcharge_row}
use Rattle.rota_layout.specs.Layout.{repeat}
use Rattle.rota_layout.specs.Reading.{read_layout}
use Rattle.rota_certificate_read.proofs.certificate.surcharge_rows.Given as goal

abbrev pub invariant-loop : goal.invariant-loop
invariant-loop l =
    read_layout (repeat (l.count - l.counter) surcharge_row l.surcharges.items) l.cursor ≡
    read_layout (repeat l.count surcharge_row []) l.fn.cursor
