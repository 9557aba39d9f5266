use Rattle.std.proofs.Common.{◌≡◌, ◌-◌, []}
use Rattle.rota_certificate_read.specs.CertificateLayout.{list_row}
use Rattle.rota_certificate_read.specs.CertificateRows.{lists_of}
use Rattle.rota_layout.specs.Layout.{repeat}
use Rattle.rota_layout.specs.Reading.{read_layout}
use Rattle.rota_certificate_read.proofs.certificate.list_rows.Given as goal

abbrev pub invariant-loop : goal.invariant-loop
invariant-loop l =
    read_layout (repeat (l.count - l.counter) (list_row l.scenario l.weeks) (lists_of l.lists.items)) l.cursor ≡
    read_layout (repeat l.count (list_row l.scenario l.weeks) []) l.fn.cursor
