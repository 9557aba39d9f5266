use Rattle.rota_certificate_read.proofs.PricesLaws.{read-is_prices}
use Rattle.rota_certificate_read.proofs.prices.price_table.Goals as goal

pub of_table-requires : goal.of_table-requires
of_table-requires c = rw (c.shifts.ensures.count, c.skills.ensures.count) (read-is_prices _ _ _ _ _ c.in_ok-prices.ensures)
