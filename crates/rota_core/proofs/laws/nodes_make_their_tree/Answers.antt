use Rattle.rota_core.specs.TreeNodes.{tree-again}
use Rattle.rota_core.proofs.laws.nodes_make_their_tree.Goals as goal

pub returns : goal.returns
returns c = tree-again
