use Rattle.std.proofs.Common.{arith}
use Rattle.rota_certificate_read.proofs.TreeWalk.{tree-fails}
use Rattle.rota_certificate_read.proofs.certificate.tree.Goals as goal

pub returns-in_err-nodes : goal.returns-in_err-nodes
returns-in_err-nodes c =
    let fails = tree-fails c.args.scenario.now c.args.weeks c.args.prices c.args.leaves c.args.cursor.now c.in_err-nodes.field-0.0
    c.in_err-nodes.ensures in
    grind (arith, fails)
