use Rattle.std.proofs.Common.{◌≡◌, ◌^◌, ◌<◌, true, take}
use Rattle.rota_core.specs.Decimal.{is_decimal, decimal}
use Rattle.solver_text.proofs.words.magnitude.Given as goal

abbrev pub invariant-loop-b : goal.invariant-loop-b
invariant-loop-b l = record {
  value : l.value ≡ decimal (take l.b-index l.digits);
  small : l.value < 10 ^ l.b-index;
  digits : is_decimal (take l.b-index l.digits) ≡ true;
}
