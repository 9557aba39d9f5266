-- The contents of files, as steps that touch no port: each says what lies in a file, or the first fault that is found there.
use Rattle.std.specs.Prelude.{◌≡◌, ℕ, List, Option, None, Some, string_bytes}
use Rattle.std.specs.declared.string.String.{String}
use Rattle.rota_core.specs.InstanceTables.{InstanceTables, holding}
use Rattle.rota_core.specs.RosterTables.{RosterTables}
use Rattle.rota_core.specs.declared.fault.FileFault.TheVariants as refusals
use Rattle.rota_core.specs.declared.fault.FileName.{FileName}
use Rattle.rota_core.specs.declared.fault.FileName.TheVariants as names
use Rattle.rota_layout.specs.Files.{HasFault, Spells}
use Rattle.rota_layout.specs.Layout.{Layout}
use Rattle.rota_read.specs.SolutionLayout.{SpellsRoster, solution}
use Rattle.rota_pb.specs.declared.fault.Fault.{Fault}
use Rattle.rota_pb.specs.declared.fault.Fault.TheVariants.{File}
use Rattle.rota_pb.specs.Steps.{Step, ◌>>=◌, check, find}
use Rattle.byte_ports.specs.Paths.{FileAt, Path, file_of, nothing, unknown}

-- it is known what lies at the path
abbrev pub IsKnown : FileAt → Type 0
IsKnown unknown = ⊥
IsKnown nothing = Unit {0}
IsKnown (file_of bytes) = Unit {0}

-- a file lies there, and its bytes mean the value
pub record LiesIn {V : Type 0} (content : FileAt) (Means : List ℕ → V → Type 0) (value : V) : Type 0 where
  pub bytes : List ℕ
  pub there : content ≡ file_of bytes
  pub mean : Means bytes value

-- a file with this name and layout lies there, and the fault is its first
abbrev pub HasFaultIn : {V : Type 0} → FileName → Layout V → FileAt → Fault → Type 0
HasFaultIn name layout content (File (refusals.Bad kind file line)) =
    (file ≡ name) × LiesIn content (HasFault layout) (record { kind = kind; line = line })
HasFaultIn name layout content _ = ⊥

-- the value that the file spells, or its first fault
abbrev pub file_in : {V : Type 0} → FileName → Layout V → FileAt → Step V
file_in name layout content = check (LiesIn content (Spells layout)) (HasFaultIn name layout content)

-- the roster that the solution file spells, or its first fault
abbrev pub roster_in : FileName → InstanceTables → FileAt → Step RosterTables
roster_in name tables content = check (LiesIn content (SpellsRoster tables)) (HasFaultIn name (solution tables.scenario) content)

module _ {X : Type 0} (at : Path → FileAt) where
  -- what lies at the path
  abbrev pub content_of : String X → FileAt
  content_of path = at (string_bytes path)

  -- the week with the cells of the roster held, if a file is named for it
  abbrev pub held_in : InstanceTables → Option (String X) → Step InstanceTables
  held_in tables None = find (λ held. held ≡ tables)
  held_in tables (Some path) = do
    roster ← roster_in names.Fixed tables (content_of path)
    find (λ held. held ≡ holding tables roster)
