use Rattle.std.proofs.Common.{◌≡◌, true, min, take}
use Rattle.rota_core.specs.Decimal.{decimal, is_decimal}
use Rattle.rota_core.proofs.decimal.decimal_up_to.Given as goal

abbrev pub invariant-loop-byte : goal.invariant-loop-byte
invariant-loop-byte l = record {
  value : l.value ≡ min (decimal (take l.byte-index l.digits)) l.most;
  digits : is_decimal (take l.byte-index l.digits) ≡ true;
}
