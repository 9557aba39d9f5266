use Rattle.std.proofs.Common.{map, refl}
use Rattle.rota_core.specs.TreeNodes.{node_of, nodes_of, tree_of, trees_of}
use Rattle.rota_core.specs.declared.certificate.Certificate.{Certificate}
use Rattle.rota_bound_run.proofs.FreePrices.{is-free}
use Rattle.rota_bound_run.proofs.proof_file.free_certificate.Goals as goal

pub invariant_of-tree : goal.invariant_of-tree
unfolding nodes_of trees_of
invariant_of-tree c = rw (c.in_ok-push-2.ensures.items, c.new-nodes.ensures.items) refl

pub returns : goal.returns
unfolding trees_of
returns c =
    let found : Certificate = record { prices = c.push.new.self; tree = tree_of (map node_of c.push-2.new.self.items) } in
    is-free c.args.scenario.now c.args.weeks found (rw (c.in_ok-push.ensures.items, c.new-prices.ensures.items)
    (c.in_ok-free_tables.ensures, tt))
    (rw (c.in_ok-push.ensures.items, c.new-prices.ensures.items) refl)
    (rw (c.in_ok-push-2.ensures.items, c.new-nodes.ensures.items, c.new.ensures.items) refl)
