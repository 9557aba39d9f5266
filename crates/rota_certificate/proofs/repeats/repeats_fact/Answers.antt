use Rattle.std.proofs.Common.{◌≡◌, ◌<◌, ◌≤◌, ◌++◌, ◌∷◌, [], ap, sym, ◌∙◌, subst, arith, length, map, slice_index_or}
use Rattle.std.proofs.lemmas.List.{length-map}
use Rattle.rota_core.specs.TreeNodes.{node_of, nodes_of}
use Rattle.rota_core.specs.declared.certificate.Condition.{Condition}
use Rattle.rota_certificate.specs.CasePaths.{IsOnPath}
use Rattle.rota_certificate.proofs.RepeatedFacts.{found-there, from-there, left-after_leaf, left-after_split, none-after_last, none-at_end, there-or-nowhere}
use Rattle.rota_certificate.proofs.TreePaths.{kept-at, kept-inside}
use Rattle.rota_certificate.proofs.repeats.repeats_fact.Goals as goal
use Rattle.rota_certificate.proofs.repeats.repeats_fact.Goals.{in-Split+else-is_on_path+in_ok-push-in-Split, in-Leaf+in_ok-go_on-in-Leaf+else-not-branch}

pub returns-then-is_on_path : goal.returns-then-is_on_path
returns-then-is_on_path c =
    let items = c.deref-node-items.result.now in
    let i = c.loop-node.node-index in
    let node = c.node-item.result in
    let inside : i < length items = omega (arith, c.loop-node-test.true) in
    let is : node ≡ slice_index_or items i node = c.node-item.is in
    let on = subst (IsOnPath c.in-Split.fact) c.deref.ensures.value (c.is_on_path.ensures.0 c.if-is_on_path.true) in
    let is_tree = ap (map node_of) c.deref-node-items.ensures.value ∙ c.tree.invariant ∙ ap nodes_of c.tree.view_is in
    let found = found-there (map node_of items) i c.loop-node.path.items (node_of node) (kept-inside items i node inside is)
    (kept-at items i node inside is) c.loop-node.invariant c.in-Split.fact (ap node_of c.in-Split.is) on in
    (λ _. there-or-nowhere (map node_of items) c.args.certificate.now.tree is_tree found, λ _. grind (arith))

pub returns-then-not-branch : goal.returns-then-not-branch
returns-then-not-branch c =
    let items = c.deref-node-items.result.now in
    let i = c.loop-node.node-index in
    let node = c.node-item.result in
    let inside : i < length items = omega (arith, c.loop-node-test.true) in
    let is : node ≡ slice_index_or items i node = c.node-item.is in
    let is_tree = ap (map node_of) c.deref-node-items.ensures.value ∙ c.tree.invariant ∙ ap nodes_of c.tree.view_is in
    let none = rw c.if-not-branch.true at c.in_ok-go_on-in-Leaf.ensures in (
      λ is_true. absurd (grind (arith, is_true)),
      λ repeats.
          absurd (none-after_last (map node_of items) i c.loop-node.path.items (node_of node) (kept-inside items i node inside is)
          (kept-at items i node inside is) c.loop-node.invariant _ (ap node_of c.in-Leaf.is) none
          (from-there (map node_of items) c.args.certificate.now.tree is_tree repeats)),
    )

pub loop-node-preserved : goal.loop-node-preserved
loop-node-preserved c =
    let items = c.deref-node-items.result.now in
    let i = c.loop-node.node-index in
    let path = c.loop-node.path.items in
    let node = c.node-item.result in
    let inside : i < length items = omega (arith, c.loop-node-test.true) in
    let is : node ≡ slice_index_or items i node = c.node-item.is in
    elim c.match-node.branch [
      | in-Split+else-is_on_path+in_ok-push-in-Split w ↦
          let fact = w.in-Split.fact in
          let new : IsOnPath fact path → ⊥ =
          λ on. grind (arith, w.if-is_on_path.false, w.is_on_path.ensures.1 (subst (IsOnPath fact) (sym w.deref.ensures.value) on)) in
          let pushed = w.in_ok-push-in-Split.ensures.items ∙ ap (λ (one : Condition). path ++ (one ∷ [])) w.with.ensures in
          rw w.path-is
          (left-after_split (map node_of items) i path (node_of node) (kept-inside items i node inside is) (kept-at items i node inside is)
          c.loop-node.invariant fact (ap node_of w.in-Split.is) w.push.new.self.items new pushed)
      | in-Leaf+in_ok-go_on-in-Leaf+else-not-branch w ↦
          rw w.path-is
          (left-after_leaf (map node_of items) i path (node_of node) (kept-inside items i node inside is) (kept-at items i node inside is)
          c.loop-node.invariant _ (ap node_of w.in-Leaf.is) w.go_on.new.path.items (rw w.if-not-branch.false at w.in_ok-go_on-in-Leaf.ensures))
    ]

pub returns : goal.returns
returns c =
    let items = c.deref-node-items.result.now in
    let past : length (map node_of items) ≤ c.loop-node.node-index =
    omega (arith, c.loop-node-test.false, length-map items node_of) in
    let is_tree = ap (map node_of) c.deref-node-items.ensures.value ∙ c.tree.invariant ∙ ap nodes_of c.tree.view_is in (
      λ is_true. absurd (grind (arith, is_true)),
      λ repeats.
          absurd (none-at_end (map node_of items) c.loop-node.node-index c.loop-node.path.items past c.loop-node.invariant
          (from-there (map node_of items) c.args.certificate.now.tree is_tree repeats)),
    )
