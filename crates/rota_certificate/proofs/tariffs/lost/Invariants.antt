use Rattle.std.proofs.Common.{◌≡◌, ◌≤◌, ◌+◌, ◌*◌, drop}
use Rattle.rota_core.specs.Limits.{max_price}
use Rattle.rota_certificate.specs.Tariffs.{lost}
use Rattle.rota_certificate.proofs.tariffs.lost.Given as goal

-- the sum so far and the sum of the conditions that are left make the sum of all
abbrev pub invariant-loop-one : goal.invariant-loop-one
invariant-loop-one l = record {
  sum : l.sum + lost (drop l.one-index l.charges) ≡ lost l.charges;
  small : l.sum ≤ l.one-index * (max_price * 10000);
}
