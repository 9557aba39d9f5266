-- The faults of a run for several weeks, and their exit status.
use Rattle.std.specs.Prelude.{ℕ, ◌+◌, ◌==◌, if◌then◌else◌}
use Rattle.rota_pb.specs.Statuses.{exit_status}
use Rattle.rota_pb.specs.declared.fault.Fault.{Fault}
use Rattle.rota_pb.specs.declared.period_fault.PeriodFault.{PeriodFault}
use Rattle.rota_pb.specs.declared.period_fault.PeriodFault.TheVariants.{InWeek, Run, Unmet}

-- the fault of the week with this index, if there is such a week: the only week is not named
abbrev pub fault_in_week : (weeks index : ℕ) → Fault → PeriodFault
fault_in_week weeks index fault = (if weeks == 1 then Run fault else InWeek (index + 1) fault)

-- the exit status
abbrev pub period_status : PeriodFault → ℕ
period_status (Run fault) = exit_status fault
period_status (InWeek week fault) = exit_status fault
period_status (Unmet line) = 6
