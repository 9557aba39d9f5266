use Rattle.std.proofs.Common.{◌≡◌, None, length}
use Rattle.std.specs.Prelude.{All}
use Rattle.rota_certificate.proofs.known.no_costs.Given as goal

abbrev pub invariant-loop-entry : goal.invariant-loop-entry
invariant-loop-entry l = record {
  none : All (λ known. known ≡ None) l.costs.items;
  count : length l.costs.items ≡ l.entry;
}
