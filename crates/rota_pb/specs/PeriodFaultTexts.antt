-- The message of each fault of a run for several weeks.
use Rattle.std.specs.Prelude.{ℕ, List, ◌++◌, codes, decimal}
use Rattle.rota_pb.specs.FaultTexts.{fault_text}
use Rattle.rota_pb.specs.declared.period_fault.PeriodFault.{PeriodFault}
use Rattle.rota_pb.specs.declared.period_fault.PeriodFault.TheVariants.{InWeek, Run, Unmet}

-- the message: that of the fault, with its week, if it is named; or the line of the given fact that is not met
abbrev pub period_fault_text : PeriodFault → List ℕ
period_fault_text (Run fault) = fault_text fault
period_fault_text (InWeek week fault) = codes "week " ++ (decimal week ++ (codes ": " ++ fault_text fault))
period_fault_text (Unmet line) = codes "facts line " ++ (decimal line ++ codes ": not met")
