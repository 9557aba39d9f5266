use Rattle.std.proofs.Common.{◌≡◌, None, length, replicate}
use Rattle.rota_read.specs.ScenarioRows.{successions_of}
use Rattle.rota_read.proofs.shift_types.no_successions.Given as goal

abbrev pub invariant-loop : goal.invariant-loop
invariant-loop l = record {
  none : successions_of l.rows.items ≡ replicate l.counter None;
  length : length l.rows.items ≡ l.counter;
}
