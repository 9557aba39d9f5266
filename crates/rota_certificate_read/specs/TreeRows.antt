-- The nodes of a tree as rows, one after the other, as the contracts of private functions see them. The lemma of `TreeWalk` says that to read
-- them is to read the tree.
use Rattle.std.specs.Prelude.{◌||◌, nat_lt, ◌+◌, ◌==◌, [], ◌∷◌, ◌++◌, map}
use Rattle.rota_core.specs.Trees.{LeafTables}
use Rattle.rota_core.specs.declared.certificate.Fact.{Fact}
use Rattle.rota_core.specs.TreeNodes.{NodeTables, leaf_with, node_of, nodes_of, split_by}
use Rattle.rota_layout.specs.Layout.{ℕ, Bool, List, ScenarioTables, Layout, end, ◌>>=◌}
use Rattle.rota_certificate_read.specs.CertificateLayout.{leaf, node_word, tree}
use Rattle.rota_certificate_read.specs.FactsLayout.{fact, keyword}
use Rattle.rota_certificate_read.specs.declared.certificate.NodeWord.{NodeWord}
use Rattle.rota_certificate_read.specs.declared.certificate.NodeWord.TheVariants as words
use Rattle.rota_certificate_read.specs.declared.certificate.TreeRows.{TreeRows}

-- a part of a tree: its nodes in preorder, and the numbers of splits and of leaves among them
pub record PartTables : Type 0 where
  pub nodes : List NodeTables
  pub splits : ℕ
  pub leaves : ℕ

-- the contents of a part of a tree
abbrev pub part_of : TreeRows → PartTables
part_of rows = record { nodes = map node_of rows.nodes.items; splits = rows.splits; leaves = rows.leaves }

-- no node yet
abbrev pub no_nodes : PartTables
no_nodes = record { nodes = []; splits = 0; leaves = 0 }

-- these nodes and a split, and these nodes and a leaf
abbrev pub and_split : PartTables → Fact → PartTables
and_split part one = record { nodes = part.nodes ++ split_by one ∷ []; splits = part.splits + 1; leaves = part.leaves }

abbrev pub and_leaf : PartTables → LeafTables → PartTables
and_leaf part one = record { nodes = part.nodes ++ leaf_with one ∷ []; splits = part.splits; leaves = part.leaves + 1 }

-- the rest of the node that begins with a word, after these nodes
unfoldable pub node_after : ScenarioTables → (weeks prices : ℕ) → PartTables → NodeWord → Layout PartTables
node_after t weeks prices part words.Split = do
  one ← fact t weeks
  end (and_split part one)
node_after t weeks prices part words.Leaf = do
  one ← leaf prices
  end (and_leaf part one)

-- A split may follow these nodes if two or more leaves would be left even if no further split came.
abbrev pub may_split : (all : ℕ) → PartTables → Bool
may_split all part = nat_lt (part.splits + 1) all

-- A leaf may follow them if it is the last of all leaves, or leaves another subtree to come.
abbrev pub may_end : (all : ℕ) → PartTables → Bool
may_end all part = nat_lt part.leaves part.splits || part.leaves + 1 == all

-- one more node of a tree with this number of leaves in all
unfoldable pub node_row : ScenarioTables → (weeks prices all : ℕ) → PartTables → Layout PartTables
node_row t weeks prices all part = do
  word ← keyword (node_word (may_split all part) (may_end all part))
  node_after t weeks prices part word

-- the nodes of a tree of this number of leaves
unfoldable pub tree_nodes : ScenarioTables → (weeks prices leaves : ℕ) → Layout (List NodeTables)
tree_nodes t weeks prices leaves = do
  one ← tree t weeks prices leaves
  end (nodes_of one)
