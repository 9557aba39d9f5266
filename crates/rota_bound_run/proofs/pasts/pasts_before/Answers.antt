use Rattle.rota_bound_run.proofs.PastLists.{no-pasts, one-past-more}
use Rattle.rota_bound_run.proofs.pasts.pasts_before.Goals as goal

pub loop-nurse-init : goal.loop-nurse-init
loop-nurse-init c = no-pasts _ _ c.new-pasts.ensures.items

pub loop-nurse-preserved : goal.loop-nurse-preserved
loop-nurse-preserved c =
    one-past-more _ c.loop-nurse.pasts.items _ c.loop-nurse.nurse c.past.result c.loop-nurse.invariant c.in_ok-push.ensures.items
    c.past.ensures.past
