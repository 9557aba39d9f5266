use Rattle.rota_core.specs.InstanceTables.{problem_of}
use Rattle.rota_bound_run.specs.JudgedWeeks.{ArePastsIn}
use Rattle.rota_bound_run.proofs.pasts.pasts_before.Given as goal

-- the list has the pasts of the first nurses
abbrev pub invariant-loop-nurse : goal.invariant-loop-nurse
invariant-loop-nurse l = ArePastsIn l.nurse (problem_of l.fn.week).past l.pasts.items
