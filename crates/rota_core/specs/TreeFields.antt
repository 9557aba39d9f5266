-- The tree of the nodes that a tree of cases is kept as.
use Rattle.std.specs.Prelude.{◌≡◌, map}
use Rattle.rota_core.specs.TreeNodes.{node_of, nodes_of, tree_of}
use Rattle.rota_core.specs.Trees.{Tree}
use Rattle.rota_core.specs.declared.certificate.CaseTree.TheInside.{Inside}

-- the tree that the nodes make
abbrev pub tree_kept : Inside → Tree
tree_kept fields = tree_of (map node_of fields.nodes.items)

-- the nodes are those of a tree, all of them
abbrev pub IsTreeKept : Inside → Type 0
IsTreeKept fields = map node_of fields.nodes.items ≡ nodes_of (tree_kept fields)
