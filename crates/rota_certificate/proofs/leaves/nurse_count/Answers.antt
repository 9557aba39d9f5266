use Rattle.std.proofs.Common.{◌∙◌, sym}
use Rattle.rota_certificate.proofs.LeafStages.{count-first}
use Rattle.rota_certificate.proofs.leaves.nurse_count.Goals as goal

pub returns-clause-count : goal.returns-clause-count
returns-clause-count c =
    rw (← c.leaf.view_is)
    (c.nurses.ensures.count ∙
    sym (count-first (record { weeks = c.leaf.inside.weeks.now; case = c.leaf.inside.case.now }) c.index-leaf-0.result c.leaf.invariant.some))
