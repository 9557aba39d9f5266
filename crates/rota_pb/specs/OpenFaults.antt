-- A run whose files were not opened.
use Rattle.byte_ports.specs.declared.open_files.OpenFault.{OpenFault}
use Rattle.byte_ports.specs.declared.open_files.OpenFault.TheVariants as unopened
use Rattle.rota_pb.specs.declared.fault.Fault.{Fault}
use Rattle.rota_pb.specs.declared.fault.Fault.TheVariants.{Memory, Read}

-- its fault
abbrev pub fault_of_opening : OpenFault → Fault
fault_of_opening unopened.Memory = Memory
fault_of_opening unopened.Read = Read
