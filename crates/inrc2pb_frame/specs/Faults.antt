-- The faults that a program has of its own.
use Rattle.rota_pb.specs.declared.fault.Fault.TheVariants as failed
pub use Rattle.rota_pb.specs.declared.period_fault.PeriodFault.{PeriodFault}
use Rattle.rota_pb.specs.declared.period_fault.PeriodFault.TheVariants.{Run}

-- memory ran out
abbrev pub out_of_memory : PeriodFault
out_of_memory = Run failed.Memory

-- a text could not be written
abbrev pub unwritten : PeriodFault
unwritten = Run failed.Write
