use Rattle.std.proofs.Common.{◌*◌, ap, sym, ◌∙◌, subst, map}
use Rattle.rota_core.specs.Limits.{max_number}
use Rattle.rota_core.specs.TreeNodes.{leaf_of, node_of, nodes_of}
use Rattle.rota_certificate.specs.Evidence.{EvidenceTables, IsEvidence, IsShortPath}
use Rattle.rota_certificate.proofs.PeriodProofs.{limited-node, short-path}
use Rattle.rota_certificate.proofs.TreeSearch.{after-leaf, after-split, at-end, at-last, searched-none}
use Rattle.rota_certificate.proofs.tree.least_bound.Goals as goal
use Rattle.rota_certificate.proofs.tree.least_bound.Goals.{in-Split+in_ok-push-in-Split, in-Leaf+in_ok-bound-in-Leaf+in_ok-go_on-in-Leaf+else-not-branch}

pub loop-node-init : goal.loop-node-init
loop-node-init c =
    searched-none _ _ _ c.new-path.ensures.items
    (ap (map node_of) c.deref-node-items.ensures.value ∙ c.tree.invariant ∙ ap nodes_of c.tree.view_is ∙
    ap (λ (e : EvidenceTables). nodes_of e.certificate.tree) c.evidence.view_is)
    (subst IsEvidence c.evidence.view_is c.evidence.invariant)

pub bound_at-requires-clause-path : goal.bound_at-requires-clause-path
bound_at-requires-clause-path c =
    let so_far = c.loop-node.invariant in
    subst (IsShortPath (2 * max_number)) (sym c.deref.ensures.value)
    (short-path _ _ so_far.tree _ _ c.loop-node.path.items so_far.evidence.is_for c.loop-node-test.true so_far.path)

pub bound_at-requires-clause-leaf : goal.bound_at-requires-clause-leaf
bound_at-requires-clause-leaf c =
    let so_far = c.loop-node.invariant in
    limited-node _ _ so_far.tree _ c.loop-node.node-index _ _ so_far.evidence.is_for c.loop-node-test.true c.node-item.is (ap node_of c.in-Leaf.is)

pub returns-then-not-branch : goal.returns-then-not-branch
returns-then-not-branch c =
    c.min-least.ensures ∙
    at-last c.loop-node-test.true c.node-item.is c.loop-node.invariant (leaf_of c.in-Leaf.leaf) c.in_ok-bound-in-Leaf.bound (ap node_of c.in-Leaf.is)
    (rw c.if-not-branch.true at c.in_ok-go_on-in-Leaf.ensures) (rw c.deref.ensures.value at c.in_ok-bound-in-Leaf.ensures.bound)
    c.in_ok-bound-in-Leaf.ensures.small

pub loop-node-preserved : goal.loop-node-preserved
loop-node-preserved c =
    let inside = c.loop-node-test.true in
    let so_far = c.loop-node.invariant in
    elim c.match-node.branch [
      | in-Split+in_ok-push-in-Split w ↦
          rw (w.path-is, w.least-is)
          (after-split inside c.node-item.is so_far w.in-Split.fact w.push.new.self.items (ap node_of w.in-Split.is)
          (rw w.with.ensures at w.in_ok-push-in-Split.ensures.items))
      | in-Leaf+in_ok-bound-in-Leaf+in_ok-go_on-in-Leaf+else-not-branch w ↦
          rw (w.path-is, w.least-is, w.min-least.ensures)
          (after-leaf inside c.node-item.is so_far (leaf_of w.in-Leaf.leaf) w.go_on.new.path.items w.in_ok-bound-in-Leaf.bound
          (ap node_of w.in-Leaf.is) (rw w.if-not-branch.false at w.in_ok-go_on-in-Leaf.ensures)
          (rw w.deref.ensures.value at w.in_ok-bound-in-Leaf.ensures.bound))
    ]

pub returns : goal.returns
returns c = at-end c.loop-node-test.false c.loop-node.invariant
