-- The nodes of a tree of cases in preorder, and the tree that nodes make.
use Rattle.std.specs.Prelude.{◌≡◌, List, [], ◌∷◌, ◌++◌, refl, slice_index_or}
use Rattle.std.specs.Coded.{Coded, code_by, coded_list, codes}
use Rattle.std.proofs.Common.{ap, sym, ◌∙◌}
use Rattle.std.proofs.lemmas.List.{append-nil, append_assoc}
use Rattle.rota_core.specs.Trees.{LeafTables, Tree, leaf_tree, split_tree}
use Rattle.rota_core.specs.declared.certificate.Fact.{Fact}
use Rattle.rota_core.specs.declared.certificate.Leaf.{Leaf}
use Rattle.rota_core.specs.declared.certificate.Node.{Node}
use Rattle.rota_core.specs.declared.certificate.Node.TheVariants as nodes

-- a node of a tree: it splits by a fact, or is a leaf
pub data NodeTables : Type 0 where
  split_by : Fact → NodeTables
  leaf_with : LeafTables → NodeTables

-- the contents of a leaf
abbrev pub leaf_of : Leaf → LeafTables
leaf_of leaf = record { prices = leaf.prices; surcharges = leaf.surcharges.items }

-- the contents of a node
abbrev pub node_of : Node → NodeTables
node_of (nodes.Split fact) = split_by fact
node_of (nodes.Leaf leaf) = leaf_with (leaf_of leaf)

-- the nodes of a tree in preorder: a split comes before its trees
unfoldable pub nodes_of : Tree → List NodeTables
nodes_of (leaf_tree one) = leaf_with one ∷ []
nodes_of (split_tree fact first second) = split_by fact ∷ nodes_of first ++ nodes_of second

-- a split of the first two of these trees, and the others; no trees if there is only one
abbrev pub split_first : Fact → List Tree → List Tree
split_first fact [] = []
split_first fact (first ∷ []) = []
split_first fact (first ∷ second ∷ others) = split_tree fact first second ∷ others

-- the trees that nodes make, one after the other: a split has the two trees after it
unfoldable pub trees_of : List NodeTables → List Tree
trees_of [] = []
trees_of (split_by fact ∷ later) = split_first fact (trees_of later)
trees_of (leaf_with one ∷ later) = leaf_tree one ∷ trees_of later

-- the first of these trees
abbrev pub first_tree : List Tree → Tree
first_tree trees = slice_index_or trees 0 (leaf_tree (record { prices = 0; surcharges = [] }))

-- the tree that nodes make
abbrev pub tree_of : List NodeTables → Tree
tree_of list = first_tree (trees_of list)

-- the nodes of a tree make this tree, whatever nodes come after them
pub trees-again : (tree : Tree) (later : List NodeTables) → trees_of (nodes_of tree ++ later) ≡ tree ∷ trees_of later
unfolding nodes_of trees_of
trees-again (leaf_tree one) later = refl
trees-again (split_tree fact first second) later =
    ap (split_first fact) (ap trees_of (append_assoc (nodes_of first) (nodes_of second) later) ∙
    trees-again first (nodes_of second ++ later) ∙ ap (λ (others : List Tree). first ∷ others) (trees-again second later))

pub tree-again : (tree : Tree) → tree_of (nodes_of tree) ≡ tree
tree-again tree = ap first_tree (ap trees_of (sym (append-nil (nodes_of tree))) ∙ trees-again tree [])

-- how the logic stores a tree: as its nodes
pub node_code : Coded NodeTables
node_code = Prim.hlevel codes

abbrev pub tree_code : Coded Tree
tree_code = code_by (List NodeTables) (coded_list node_code) nodes_of tree_of tree-again
