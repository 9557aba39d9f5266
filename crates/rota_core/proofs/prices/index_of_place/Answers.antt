use Rattle.std.proofs.Common.{◌*◌, ◌+◌, arith}
use Rattle.std.proofs.lemmas.Nat.{mul-le}
use Rattle.rota_core.proofs.prices.index_of_place.Goals as goal

pub overflow_mul-result : goal.overflow_mul-result
overflow_mul-result c =
    let row = mul-le c.from.result c.from-2.result 255 255 (omega arith) (omega arith) in
    omega (arith, mul-le (c.from.result * c.from-2.result + c.from-3.result) c.from-4.result (255 * 255 + 255) 255 (omega arith) (omega arith))

pub overflow_add-result : goal.overflow_add-result
overflow_add-result c =
    let row = mul-le c.from.result c.from-2.result 255 255 (omega arith) (omega arith) in
    omega (arith, mul-le (c.from.result * c.from-2.result + c.from-3.result) c.from-4.result (255 * 255 + 255) 255 (omega arith) (omega arith))
