-- The search for the minimum of the bounds of a certificate's leaves.
use Rattle.std.proofs.Common.{◌≡◌, ℕ, ◌+◌, ◌<◌, ◌≤◌, ap, sym, ◌∙◌, subst, min, arith, List, [], ◌∷◌, ◌++◌, length, drop, map, reverse, slice_index_or}
use Rattle.std.specs.Prelude.{Some, None}
use Rattle.std.specs.List.{AllByRecursion}
use Rattle.std.proofs.lemmas.List.{length-append, length-map}
use Rattle.rota_core.specs.TreeNodes.{leaf_with, node_of, nodes_of, split_by}
use Rattle.rota_core.specs.Trees.{LeafTables}
use Rattle.rota_core.specs.declared.certificate.Condition.{Condition}
use Rattle.rota_core.specs.declared.certificate.Fact.{Fact}
use Rattle.rota_core.specs.declared.certificate.Node.{Node}
use Rattle.rota_certificate.specs.CaseLimits.{IsLimited}
use Rattle.rota_certificate.specs.CasePaths.{CasePath, with}
use Rattle.rota_certificate.specs.NextPaths.{next_path}
use Rattle.rota_certificate.specs.CertificateBounds.{least_bound}
use Rattle.rota_certificate.specs.LeafBounds.{most_bound}
use Rattle.rota_certificate.specs.Evidence.{EvidenceTables, IsEvidence, IsShortPath, bound_asked}
use Rattle.rota_certificate.proofs.ListSteps.{all-append}
use Rattle.rota_certificate.proofs.PeriodProofs.{limited-node}
use Rattle.rota_certificate.proofs.TreePaths.{kept-at, kept-inside, least-end, least_from, least-last, least-later, least-split, least-whole, path-short, reverse-push}

-- Before the node with this index, these are the minimum so far and the conditions of the path. The nodes are those of the certificate's tree.
pub record IsSearched (e : EvidenceTables) (nodes : List Node) (i least : ℕ) (items : List Condition) : Type 0 where
  pub minimum :
      min least (least_from (bound_asked e) (reverse items) (drop i (map node_of nodes))) ≡
      min 18446744073709551615 (least_bound (bound_asked e) [] e.certificate.tree)
  pub path : IsShortPath i items
  pub tree : map node_of nodes ≡ nodes_of e.certificate.tree
  pub evidence : IsEvidence e

-- no node is searched
pub searched-none : (e : EvidenceTables) (nodes : List Node) (items : List Condition) → items ≡ [] →
    map node_of nodes ≡ nodes_of e.certificate.tree → IsEvidence e → IsSearched e nodes 0 18446744073709551615 items
searched-none e nodes [] none tree evidence = record {
  minimum = ap (min 18446744073709551615) (least-whole (bound_asked e) (map node_of nodes) e.certificate.tree tree);
  path = record { few = omega arith; each = tt };
  tree = tree;
  evidence = evidence;
}
searched-none e nodes (one ∷ items) none tree evidence = absurd (cc none)

module _ {e : EvidenceTables} {nodes : List Node} {i least : ℕ} {items : List Condition} {node : Node} (inside : i < length nodes)
    (is : node ≡ slice_index_or nodes i node) (searched : IsSearched e nodes i least items) where
  pub after-split : (fact : Fact) (after : List Condition) → node_of node ≡ split_by fact → after ≡ items ++ (with fact ∷ []) →
      IsSearched e nodes (i + 1) least after
  after-split fact after split pushed =
      let tree = map node_of nodes in
      let bound = bound_asked e in
      let limited = limited-node e.certificate nodes searched.tree e.weeks i node (split_by fact) searched.evidence.is_for inside is split in
      let same = least-split bound (reverse items) tree i (node_of node) (kept-inside nodes i node inside is) (kept-at nodes i node inside is) fact split ∙
      ap (λ (path : CasePath). least_from bound path (drop (i + 1) tree)) (sym (reverse-push after items (with fact) pushed)) in
      record {
        minimum = ap (min least) (sym same) ∙ searched.minimum;
        path = record {
          few = omega (arith, ap length pushed, length-append items (with fact ∷ []), searched.path.few);
          each = subst (AllByRecursion (λ (one : Condition). IsLimited one.fact)) (sym pushed)
              (all-append (λ (one : Condition). IsLimited one.fact) items (with fact ∷ []) searched.path.each (limited, tt));
        };
        tree = searched.tree;
        evidence = searched.evidence;
      }

  pub after-leaf : (leaf : LeafTables) (after : List Condition) (found : ℕ) → node_of node ≡ leaf_with leaf →
      next_path (reverse items) ≡ Some (reverse after) → found ≡ bound_asked e (reverse items) leaf →
      IsSearched e nodes (i + 1) (min least found) after
  after-leaf leaf after found is_leaf next is_bound =
      let same = least-later (bound_asked e) (reverse items) (map node_of nodes) i (node_of node) (kept-inside nodes i node inside is)
      (kept-at nodes i node inside is) leaf (reverse after) is_leaf next in
      let short = path-short i items after next searched.path in
      record {
        minimum = omega (arith, same, is_bound, searched.minimum);
        path = record { few = omega (arith, short.few); each = short.each };
        tree = searched.tree;
        evidence = searched.evidence;
      }

  pub at-last : (leaf : LeafTables) (found : ℕ) → node_of node ≡ leaf_with leaf → next_path (reverse items) ≡ None →
      found ≡ bound_asked e (reverse items) leaf → found ≤ most_bound → min least found ≡ least_bound (bound_asked e) [] e.certificate.tree
  at-last leaf found is_leaf none is_bound small =
      let last = least-last (bound_asked e) (reverse items) (map node_of nodes) i (node_of node) (kept-inside nodes i node inside is)
      (kept-at nodes i node inside is) leaf is_leaf none in
      omega (arith, last, is_bound, searched.minimum, small)

-- all nodes are searched
pub at-end : {e : EvidenceTables} {nodes : List Node} {i least : ℕ} {items : List Condition} → length nodes ≤ i →
    IsSearched e nodes i least items → 0 ≡ least_bound (bound_asked e) [] e.certificate.tree
at-end {e} {nodes} {i} {least} {items} past searched =
    let past_tree : length (map node_of nodes) ≤ i = omega (arith, length-map nodes node_of, past) in
    omega (arith, least-end (bound_asked e) (reverse items) (map node_of nodes) i past_tree, searched.minimum)
