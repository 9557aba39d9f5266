-- Trees of cases.
use Rattle.std.specs.Prelude.{ℕ, ◌+◌, List}
use Rattle.rota_core.specs.declared.certificate.Fact.{Fact}

-- a leaf: the number of its prices in the certificate, from 0, and its surcharges
pub record LeafTables : Type 0 where
  pub prices : ℕ
  pub surcharges : List ℕ

-- a tree of cases: a leaf; or a split by a fact, with the tree of the case in which it holds, and then that of the case in which it does not
pub data Tree : Type 0 where
  leaf_tree : LeafTables → Tree
  split_tree : Fact → Tree → Tree → Tree

-- the number of leaves of a tree
unfoldable pub leaves_in : Tree → ℕ
leaves_in (leaf_tree one) = 1
leaves_in (split_tree fact first second) = leaves_in first + leaves_in second
