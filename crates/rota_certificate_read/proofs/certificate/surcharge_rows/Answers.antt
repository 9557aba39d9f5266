use Rattle.std.proofs.Common.{arith}
use Rattle.rota_certificate_read.specs.CertificateLayout.{surcharge_row}
use Rattle.rota_layout.proofs.ReadingLaws.{row_fails}
use Rattle.rota_certificate_read.proofs.certificate.surcharge_rows.Goals as goal

pub returns-in_err-surcharge_row : goal.returns-in_err-surcharge_row
returns-in_err-surcharge_row c =
    let fails =
    row_fails surcharge_row c.loop.surcharges.items c.args.count c.loop.counter c.loop.cursor c.in_err-surcharge_row.field-0.0
    c.loop-test.true c.in_err-surcharge_row.ensures in
    rw (← c.loop.invariant) (grind (arith, fails))
