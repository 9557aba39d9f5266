use Rattle.std.proofs.Common.{map}
use Rattle.rota_core.specs.TreeNodes.{node_of}
use Rattle.rota_certificate.proofs.RepeatedFacts.{IsLeft}
use Rattle.rota_certificate.proofs.repeats.repeats_fact.Given as goal

abbrev pub invariant-loop-node : goal.invariant-loop-node
invariant-loop-node l = IsLeft (map node_of l.node-items) l.node-index l.path.items
