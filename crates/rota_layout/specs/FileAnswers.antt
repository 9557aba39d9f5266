-- The faults that a reader of a file may return instead of a value.
use Rattle.std.specs.Prelude.{◌≡◌, ℕ, List}
use Rattle.rota_core.specs.declared.fault.FileName.{FileName}
use Rattle.rota_core.specs.declared.fault.FileFault.{FileFault}
use Rattle.rota_core.specs.declared.fault.FileFault.TheVariants as errors
use Rattle.rota_layout.specs.Files.{HasFault}
use Rattle.rota_layout.specs.Layout.{Layout}

-- the faults that a reader of the file may return instead of a value
abbrev pub IsFaultOf : {V : Type 0} → FileName → Layout V → List ℕ → FileFault → Type 0
IsFaultOf file layout text (errors.Bad kind named line) = (named ≡ file) × HasFault layout text (record { kind = kind; line = line })
IsFaultOf file layout text errors.Memory = Unit {0}
