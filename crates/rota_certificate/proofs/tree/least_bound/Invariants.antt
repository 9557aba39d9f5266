use Rattle.rota_certificate.proofs.TreeSearch.{IsSearched}
use Rattle.rota_certificate.proofs.tree.least_bound.Given as goal

-- the nodes before this one are searched
abbrev pub invariant-loop-node : goal.invariant-loop-node
invariant-loop-node l = IsSearched l.evidence l.node-items l.node-index l.least l.path.items
