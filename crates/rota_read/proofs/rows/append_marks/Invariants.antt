use Rattle.std.proofs.Common.{◌≡◌, ◌++◌}
use Rattle.rota_read.specs.ScenarioLayout.{marks}
use Rattle.rota_read.proofs.rows.append_marks.Given as goal

abbrev pub invariant-loop-k : goal.invariant-loop-k
invariant-loop-k l = l.out.items ≡ l.initial.out.items ++ marks l.k l.indices
