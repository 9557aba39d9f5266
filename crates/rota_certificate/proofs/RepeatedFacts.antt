-- Facts that are on a path more than once: steps through the tree.
use Rattle.std.proofs.Common.{◌≡◌, ◌↔◌, ◌⊎◌, inl, inr, ℕ, ◌+◌, ◌-◌, ◌<◌, ◌≤◌, ap, sym, ◌∙◌, subst, arith, List, [], ◌∷◌, ◌++◌, length, drop, reverse, slice_index_or}
use Rattle.std.specs.Prelude.{IsSomeAnd, Some, None}
use Rattle.std.specs.List.{Any}
use Rattle.std.proofs.lemmas.List.{append-nil, append_assoc, drop_all, get_or-reverse, length-reverse, reverse-reverse}
use Rattle.rota_core.specs.TreeNodes.{NodeTables, leaf_with, nodes_of, split_by}
use Rattle.rota_core.specs.Trees.{LeafTables, Tree, leaf_tree, split_tree}
use Rattle.rota_core.specs.declared.certificate.Condition.{Condition}
use Rattle.rota_core.specs.declared.certificate.Fact.{Fact}
use Rattle.rota_certificate.specs.CasePaths.{CasePath, IsOnPath, Repeats, with, without}
use Rattle.rota_certificate.specs.NextPaths.{next_path}
use Rattle.rota_certificate.proofs.ListSteps.{list-more}
use Rattle.rota_certificate.proofs.TreePaths.{reverse-push}

-- ---- the conditions of a path, in both orders

any-reverse : {X : Type 0} (P : X → Type 0) (xs : List X) → Any P xs → Any P (reverse xs)
any-reverse P xs any =
    let k = any.0 in
    let j = length xs - 1 - k in
    let back : length xs - 1 - j ≡ k = omega (arith, any.2) in (
      j,
      any.1,
      omega (arith, any.2, length-reverse xs),
      get_or-reverse xs j any.1 (omega (arith, any.2)) ∙ ap (λ (n : ℕ). slice_index_or xs n any.1) back ∙ any.3,
      any.4,
    )

pub on-reversed : (fact : Fact) (items : List Condition) → IsOnPath fact items → IsOnPath fact (reverse items)
on-reversed fact items is = any-reverse (λ one. one.fact ≡ fact) items is

pub on-forward : (fact : Fact) (items : List Condition) → IsOnPath fact (reverse items) → IsOnPath fact items
on-forward fact items is = subst (IsOnPath fact) (reverse-reverse items) (any-reverse (λ one. one.fact ≡ fact) (reverse items) is)

-- ---- the nodes of a tree in preorder

-- from this node on, a split has a fact that is on its path; the path leads to this node
unfoldable pub RepeatsFrom : CasePath → List NodeTables → Type 0
RepeatsFrom path [] = ⊥
RepeatsFrom path (split_by fact ∷ later) = IsOnPath fact path ⊎ RepeatsFrom (with fact ∷ path) later
RepeatsFrom path (leaf_with leaf ∷ later) = IsSomeAnd (next_path path) (λ next. RepeatsFrom next later)

-- the tree at the end of the path has such a split, or the nodes after it
abbrev IsThereOrLater : CasePath → Tree → List NodeTables → Type 0
IsThereOrLater path tree later = Repeats path tree ⊎ IsSomeAnd (next_path path) (λ next. RepeatsFrom next later)

from-nodes : (path : CasePath) (tree : Tree) (later : List NodeTables) → RepeatsFrom path (nodes_of tree ++ later) → IsThereOrLater path tree later
unfolding RepeatsFrom Repeats nodes_of next_path
from-nodes path (leaf_tree one) later repeats = inr repeats
from-nodes path (split_tree fact first second) later (inl on) = inl (inl on)
from-nodes path (split_tree fact first second) later (inr more) =
    let rest = subst (RepeatsFrom (with fact ∷ path)) (append_assoc (nodes_of first) (nodes_of second) later) more in
    elim (from-nodes (with fact ∷ path) first (nodes_of second ++ later) rest) [
      | inl here ↦ inl (inr (inl here))
      | inr next ↦
          elim (from-nodes (without fact ∷ path) second later next) [
            | inl there ↦ inl (inr (inr there))
            | inr after ↦ inr after
          ]
    ]

to-nodes : (path : CasePath) (tree : Tree) (later : List NodeTables) → IsThereOrLater path tree later → RepeatsFrom path (nodes_of tree ++ later)
unfolding RepeatsFrom Repeats nodes_of next_path
to-nodes path (leaf_tree one) later (inl here) = absurd here
to-nodes path (leaf_tree one) later (inr next) = next
to-nodes path (split_tree fact first second) later there =
    let joined = sym (append_assoc (nodes_of first) (nodes_of second) later) in
    let go_on : IsThereOrLater (with fact ∷ path) first (nodes_of second ++ later) → RepeatsFrom path (nodes_of (split_tree fact first second) ++ later) =
    λ is. inr (subst (RepeatsFrom (with fact ∷ path)) joined (to-nodes (with fact ∷ path) first (nodes_of second ++ later) is)) in
    elim there [
      | inl here ↦
          elim here [
            | inl on ↦ inl on
            | inr below ↦
                elim below [
                  | inl one ↦ go_on (inl one)
                  | inr two ↦ go_on (inr (to-nodes (without fact ∷ path) second later (inl two)))
                ]
          ]
      | inr next ↦ go_on (inr (to-nodes (without fact ∷ path) second later (inr next)))
    ]

-- all nodes of a tree
module _ (list : List NodeTables) (tree : Tree) (is : list ≡ nodes_of tree) where
  whole : list ≡ nodes_of tree ++ []
  whole = is ∙ sym (append-nil (nodes_of tree))

  pub there-or-nowhere : RepeatsFrom [] list → Repeats [] tree
  unfolding next_path
  there-or-nowhere repeats =
      elim (from-nodes [] tree [] (subst (RepeatsFrom []) whole repeats)) [
        | inl here ↦ here
        | inr later ↦ absurd later
      ]

  pub from-there : Repeats [] tree → RepeatsFrom [] list
  from-there here = subst (RepeatsFrom []) (sym whole) (to-nodes [] tree [] (inl here))

-- ---- the nodes from an index on

-- from the node with this index on, a fact is repeated if and only if one is in the whole tree
abbrev pub IsLeft : (tree : List NodeTables) (i : ℕ) (items : List Condition) → Type 0
IsLeft tree i items = RepeatsFrom [] tree ↔ RepeatsFrom (reverse items) (drop i tree)

module _ (tree : List NodeTables) (i : ℕ) (items : List Condition) (node : NodeTables) (inside : i < length tree)
    (is : node ≡ slice_index_or tree i node) (left : IsLeft tree i items) where
  module _ (fact : Fact) (split : node ≡ split_by fact) where
    split-is : drop i tree ≡ (split_by fact ∷ drop (i + 1) tree)
    split-is = list-more tree i node inside is ∙ ap (λ (one : NodeTables). one ∷ drop (i + 1) tree) split

    at-split : RepeatsFrom [] tree → IsOnPath fact (reverse items) ⊎ RepeatsFrom (with fact ∷ reverse items) (drop (i + 1) tree)
    unfolding RepeatsFrom
    at-split repeats = subst (RepeatsFrom (reverse items)) split-is (left.0 repeats)

    from-split : IsOnPath fact (reverse items) ⊎ RepeatsFrom (with fact ∷ reverse items) (drop (i + 1) tree) → RepeatsFrom [] tree
    unfolding RepeatsFrom
    from-split repeats = left.1 (subst (RepeatsFrom (reverse items)) (sym split-is) repeats)

    pub found-there : IsOnPath fact items → RepeatsFrom [] tree
    found-there on = from-split (inl (on-reversed fact items on))

    is-later : (IsOnPath fact items → ⊥) → IsOnPath fact (reverse items) ⊎ RepeatsFrom (with fact ∷ reverse items) (drop (i + 1) tree) →
        RepeatsFrom (with fact ∷ reverse items) (drop (i + 1) tree)
    is-later new (inl on) = absurd (new (on-forward fact items on))
    is-later new (inr later) = later

    pub left-after_split : (after : List Condition) → (IsOnPath fact items → ⊥) → after ≡ items ++ (with fact ∷ []) → IsLeft tree (i + 1) after
    left-after_split after new pushed =
        let path = reverse-push after items (with fact) pushed in (
          λ repeats.
              subst (λ (one : CasePath). RepeatsFrom one (drop (i + 1) tree)) (sym path) (is-later new (at-split repeats)),
          λ later.
              from-split (inr (subst (λ (one : CasePath). RepeatsFrom one (drop (i + 1) tree)) path later)),
        )

  module _ (leaf : LeafTables) (is_leaf : node ≡ leaf_with leaf) where
    leaf-is : drop i tree ≡ (leaf_with leaf ∷ drop (i + 1) tree)
    leaf-is = list-more tree i node inside is ∙ ap (λ (one : NodeTables). one ∷ drop (i + 1) tree) is_leaf

    at-leaf : RepeatsFrom [] tree → IsSomeAnd (next_path (reverse items)) (λ next. RepeatsFrom next (drop (i + 1) tree))
    unfolding RepeatsFrom
    at-leaf repeats = subst (RepeatsFrom (reverse items)) leaf-is (left.0 repeats)

    from-leaf : IsSomeAnd (next_path (reverse items)) (λ next. RepeatsFrom next (drop (i + 1) tree)) → RepeatsFrom [] tree
    unfolding RepeatsFrom
    from-leaf repeats = left.1 (subst (RepeatsFrom (reverse items)) (sym leaf-is) repeats)

    pub left-after_leaf : (after : List Condition) → next_path (reverse items) ≡ Some (reverse after) → IsLeft tree (i + 1) after
    left-after_leaf after next = (
      λ repeats. rw next at (at-leaf repeats),
      λ later. from-leaf (rw next later),
    )

    pub none-after_last : next_path (reverse items) ≡ None → RepeatsFrom [] tree → ⊥
    none-after_last none repeats = rw none at (at-leaf repeats)

pub none-at_end : (tree : List NodeTables) (i : ℕ) (items : List Condition) → length tree ≤ i → IsLeft tree i items → RepeatsFrom [] tree → ⊥
unfolding RepeatsFrom
none-at_end tree i items past left repeats = subst (RepeatsFrom (reverse items)) (drop_all i tree past) (left.0 repeats)
