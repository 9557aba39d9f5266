-- The exit status of each fault.
use Rattle.std.specs.Prelude.{ℕ}
use Rattle.rota_pb.specs.Imports.{Answer, Breaks, Fault, File, Memory, NoRoster, Read, Unmet, Write}
use Rattle.rota_core.specs.declared.fault.FileFault.TheVariants as refusals

-- the exit status of a run that ends with this fault
abbrev pub exit_status : Fault → ℕ
exit_status (File (refusals.Bad kind file line)) = 1
exit_status (File refusals.Memory) = 4
exit_status Memory = 4
exit_status Write = 3
exit_status Read = 3
exit_status (Answer fault) = 1
exit_status (NoRoster status) = 5
exit_status (Unmet number) = 6
exit_status (Breaks rule) = 6
