use Rattle.rota_core.specs.InstanceTables.{problem_of}
use Rattle.rota_core.specs.Pasts.{with_pasts}
use Rattle.rota_core.specs.RosterTables.{set_of}
use Rattle.rota_certificate.specs.Plans.{history_after}
use Rattle.rota_bound_run.proofs.PastLists.{IsPartlyAfter}
use Rattle.rota_bound_run.proofs.pasts.pasts_after.Given as goal

-- the pasts of the first nurses are those after the week
abbrev pub invariant-loop-nurse : goal.invariant-loop-nurse
invariant-loop-nurse l =
    let before = problem_of (with_pasts l.fn.week l.fn.pasts.items) in
    IsPartlyAfter (history_after before (set_of l.fn.roster)) l.fn.pasts.items l.pasts.items l.nurse
