-- Steps through a tree of cases.
use Rattle.std.proofs.Common.{◌≡◌, ℕ, ◌+◌, ◌*◌, ◌<◌, ◌≤◌, Bool, true, false, refl, ap, sym, ◌∙◌, subst, cond, min, arith, List, [], ◌∷◌, ◌++◌, length, drop, map, reverse, slice_index_or}
use Rattle.std.specs.Prelude.{Option, Some, None}
use Rattle.std.specs.Option.{option_map_or}
use Rattle.std.specs.List.{AllByRecursion}
use Rattle.std.proofs.lemmas.List.{append-nil, append_assoc, drop_all, get_or-map, length-append, length-map, length-reverse, reverse-append, reverse-reverse}
use Rattle.rota_core.specs.TreeNodes.{NodeTables, leaf_with, node_of, nodes_of, split_by}
use Rattle.rota_core.specs.Trees.{LeafTables, Tree, leaf_tree, leaves_in, split_tree}
use Rattle.rota_core.specs.Limits.{max_number}
use Rattle.rota_core.specs.declared.certificate.Condition.{Condition}
use Rattle.rota_core.specs.declared.certificate.Fact.{Fact}
use Rattle.rota_core.specs.declared.certificate.Node.{Node}
use Rattle.rota_certificate.specs.CaseLimits.{IsLimited, IsLimitedCase}
use Rattle.rota_certificate.specs.CasePaths.{CasePath, with, without}
use Rattle.rota_certificate.specs.NextPaths.{next_path}
use Rattle.rota_certificate.specs.CertificateBounds.{case_of, least_bound}
use Rattle.rota_certificate.specs.Evidence.{IsShortPath}
use Rattle.rota_certificate.proofs.ListSteps.{all-append, all-reverse, list-more}

-- ---- the last condition of a path

pub reverse-push : (items before : List Condition) (last : Condition) → items ≡ before ++ (last ∷ []) → reverse items ≡ (last ∷ reverse before)
reverse-push items before last is = ap reverse is ∙ reverse-append before (last ∷ [])

next-if : (path : CasePath) (last : Condition) → next_path (last ∷ path) ≡ cond last.holds (Some (without last.fact ∷ path)) (next_path path)
unfolding next_path
next-if path last = refl

module _ (items before : List Condition) (last : Condition) (is : items ≡ before ++ (last ∷ [])) where
  next-is : next_path (reverse items) ≡ cond last.holds (Some (without last.fact ∷ reverse before)) (next_path (reverse before))
  next-is = ap next_path (reverse-push items before last is) ∙ next-if (reverse before) last

  pub next-turned : last.holds ≡ true → next_path (reverse items) ≡ Some (without last.fact ∷ reverse before)
  next-turned holds = next-is ∙ rw holds refl

  pub next-after : last.holds ≡ false → next_path (reverse items) ≡ next_path (reverse before)
  next-after fails = next-is ∙ rw fails refl

-- nothing comes after the root's case
pub next-of_root : (items : List Condition) → length items ≡ 0 → next_path (reverse items) ≡ None
unfolding next_path
next-of_root [] none = refl
next-of_root (last ∷ items) none = absurd (omega (arith, none))

-- ---- the conditions on a path

short-at : (n : ℕ) (holds : Bool) (fact : Fact) (path next : CasePath) → cond holds (Some (without fact ∷ path)) (next_path path) ≡ Some next →
    length path < n → IsLimited fact → AllByRecursion (λ one. IsLimited one.fact) path → (next_path path ≡ Some next → IsShortPath n next) → IsShortPath n next
short-at n true fact path next is few here each rest =
    let same : (without fact ∷ path) ≡ next = cc is in
    subst (IsShortPath n) same (record { few = omega (arith, few); each = (here, each) })
short-at n false fact path next is few here each rest = rest is

pub next-short : (n : ℕ) (path next : CasePath) → next_path path ≡ Some next → length path ≤ n → AllByRecursion (λ one. IsLimited one.fact) path →
    IsShortPath n next
unfolding next_path
next-short n [] next is few each = absurd (cc is)
next-short n (last ∷ path) next is few each =
    short-at n last.holds last.fact path next is (omega (arith, few)) each.0 each.1
    (λ same. next-short n path next same (omega (arith, few)) each.1)

-- ---- the nodes of a tree in preorder

-- the minimum of the bounds of the leaves from a node on; the path leads to this node
unfoldable pub least_from : (CasePath → LeafTables → ℕ) → CasePath → List NodeTables → ℕ
least_from bound path [] = 0
least_from bound path (split_by fact ∷ later) = least_from bound (with fact ∷ path) later
least_from bound path (leaf_with leaf ∷ later) =
    option_map_or (λ next. min (bound path leaf) (least_from bound next later)) (next_path path) (bound path leaf)

min-later : (a b : ℕ) (f : CasePath → ℕ) (next : Option CasePath) →
    min a (option_map_or (λ one. min b (f one)) next b) ≡ option_map_or (λ one. min (min a b) (f one)) next (min a b)
min-later a b f None = refl
min-later a b f (Some one) = omega arith

-- a tree has one split less than leaves
pub nodes-count : (tree : Tree) → length (nodes_of tree) + 1 ≡ 2 * leaves_in tree
unfolding nodes_of leaves_in
nodes-count (leaf_tree one) = refl
nodes-count (split_tree fact first second) =
    omega (arith, length-append (nodes_of first) (nodes_of second), nodes-count first, nodes-count second)

-- the nodes of the tree at the end of the path, and those after it
least-tree : (bound : CasePath → LeafTables → ℕ) (path : CasePath) (tree : Tree) (later : List NodeTables) →
    least_from bound path (nodes_of tree ++ later) ≡
    option_map_or (λ next. min (least_bound bound path tree) (least_from bound next later)) (next_path path) (least_bound bound path tree)
unfolding least_from least_bound nodes_of next_path
least-tree bound path (leaf_tree one) later = refl
least-tree bound path (split_tree fact first second) later =
    ap (least_from bound (with fact ∷ path)) (append_assoc (nodes_of first) (nodes_of second) later) ∙
    least-tree bound (with fact ∷ path) first (nodes_of second ++ later) ∙
    ap (min (least_bound bound (with fact ∷ path) first)) (least-tree bound (without fact ∷ path) second later) ∙
    min-later (least_bound bound (with fact ∷ path) first) (least_bound bound (without fact ∷ path) second)
    (λ next. least_from bound next later) (next_path path)

-- all nodes of a tree
pub least-whole : (bound : CasePath → LeafTables → ℕ) (list : List NodeTables) (tree : Tree) → list ≡ nodes_of tree →
    least_from bound [] list ≡ least_bound bound [] tree
unfolding next_path
least-whole bound list tree is = ap (least_from bound []) (is ∙ sym (append-nil (nodes_of tree))) ∙ least-tree bound [] tree []

-- ---- the nodes from an index on

-- the contents of a node, from its index on
module _ (items : List Node) (i : ℕ) (node : Node) (inside : i < length items) (is : node ≡ slice_index_or items i node) where
  pub kept-inside : i < length (map node_of items)
  kept-inside = omega (arith, length-map items node_of, inside)

  pub kept-at : node_of node ≡ slice_index_or (map node_of items) i (node_of node)
  kept-at = ap node_of is ∙ sym (get_or-map node_of items i node (node_of node) inside)

module _ (bound : CasePath → LeafTables → ℕ) (path : CasePath) (tree : List NodeTables) (i : ℕ) (node : NodeTables) (inside : i < length tree)
    (is : node ≡ slice_index_or tree i node) where
  least-node : least_from bound path (drop i tree) ≡ least_from bound path (node ∷ drop (i + 1) tree)
  least-node = ap (least_from bound path) (list-more tree i node inside is)

  pub least-split : (fact : Fact) → node ≡ split_by fact →
      least_from bound path (drop i tree) ≡ least_from bound (with fact ∷ path) (drop (i + 1) tree)
  unfolding least_from
  least-split fact split = least-node ∙ ap (λ (one : NodeTables). least_from bound path (one ∷ drop (i + 1) tree)) split

  least-leaf : (leaf : LeafTables) → node ≡ leaf_with leaf → least_from bound path (drop i tree) ≡
      option_map_or (λ next. min (bound path leaf) (least_from bound next (drop (i + 1) tree))) (next_path path) (bound path leaf)
  unfolding least_from
  least-leaf leaf is_leaf = least-node ∙ ap (λ (one : NodeTables). least_from bound path (one ∷ drop (i + 1) tree)) is_leaf

  pub least-later : (leaf : LeafTables) (next : CasePath) → node ≡ leaf_with leaf → next_path path ≡ Some next →
      least_from bound path (drop i tree) ≡ min (bound path leaf) (least_from bound next (drop (i + 1) tree))
  least-later leaf next is_leaf later = least-leaf leaf is_leaf ∙ rw later refl

  pub least-last : (leaf : LeafTables) → node ≡ leaf_with leaf → next_path path ≡ None → least_from bound path (drop i tree) ≡ bound path leaf
  least-last leaf is_leaf none = least-leaf leaf is_leaf ∙ rw none refl

pub least-end : (bound : CasePath → LeafTables → ℕ) (path : CasePath) (tree : List NodeTables) (i : ℕ) → length tree ≤ i → least_from bound path (drop i tree) ≡ 0
unfolding least_from
least-end bound path tree i past = ap (least_from bound path) (drop_all i tree past)

-- ---- the case of a path

-- the conditions of the path from the root on, then the given ones
pub case-forward : (items given : List Condition) → case_of (reverse items) given ≡ items ++ given
case-forward items given = ap (λ (path : List Condition). path ++ given) (reverse-reverse items)

-- the path of a vector's conditions stays short at the next case
pub path-short : (most : ℕ) (items after : List Condition) → next_path (reverse items) ≡ Some (reverse after) → IsShortPath most items → IsShortPath most after
path-short most items after next path =
    let ahead = next-short most (reverse items) (reverse after) next (omega (arith, length-reverse items, path.few))
    (all-reverse (λ (one : Condition). IsLimited one.fact) items path.each) in
    record {
      few = omega (arith, length-reverse after, ahead.few);
      each = subst (AllByRecursion (λ (one : Condition). IsLimited one.fact)) (reverse-reverse after)
          (all-reverse (λ (one : Condition). IsLimited one.fact) (reverse after) ahead.each);
    }

-- a case has no more conditions than its certificate and its file of given conditions allow
pub case-limited : (items given : List Condition) → IsShortPath (2 * max_number) items → length given ≤ max_number →
    AllByRecursion (λ (one : Condition). IsLimited one.fact) given → IsLimitedCase (items ++ given)
case-limited items given path few each = record {
  few = omega (arith, length-append items given, path.few, few);
  each = all-append (λ (one : Condition). IsLimited one.fact) items given path.each each;
}
