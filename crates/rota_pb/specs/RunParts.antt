-- The parts of a run: a file is read whole, and a file's fault becomes a fault of the run.
use Rattle.std.specs.Prelude.{ℕ}
use Rattle.rota_pb.specs.Imports.{Fault, File, Memory, Read}
use Rattle.rota_pb.specs.RunPorts.{FailsWithin, IsReadInPart, Reader}
use Rattle.rota_core.specs.declared.fault.FileFault.{FileFault}
use Rattle.rota_core.specs.declared.fault.FileFault.TheVariants as refusals

-- why a source is not read up to its end or `limit` bytes: it failed before, or there was no memory for the bytes
abbrev pub StopsReading : ℕ → Reader → Fault → Type 0
StopsReading limit reader Memory = IsReadInPart reader
StopsReading limit reader Read = FailsWithin limit reader
StopsReading limit reader _ = ⊥

-- the fault of a run for the fault of a file
abbrev pub fault_of_file : FileFault → Fault
fault_of_file (refusals.Bad kind file line) = File (refusals.Bad kind file line)
fault_of_file refusals.Memory = Memory
