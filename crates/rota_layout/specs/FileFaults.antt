-- The reason why reading stopped, with the name of the file.
use Rattle.rota_core.specs.declared.fault.FileName.{FileName}
use Rattle.rota_core.specs.declared.fault.FileFault.{FileFault}
use Rattle.rota_core.specs.declared.fault.FileFault.TheVariants as errors
use Rattle.rota_layout.specs.declared.fault.LayoutError.{LayoutError}
use Rattle.rota_layout.specs.declared.fault.LayoutError.TheVariants as stops

abbrev pub fault_in : FileName → LayoutError → FileFault
fault_in file stops.Memory = errors.Memory
fault_in file (stops.Fault f) = errors.Bad f.kind file f.line
