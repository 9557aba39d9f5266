-- Readers of new files show what lies at their paths.
use Rattle.std.proofs.Common.{◌≡◌, refl}
use Rattle.std.specs.Prelude.{string_bytes}
use Rattle.std.specs.declared.string.String.{String}
use Rattle.byte_ports.specs.declared.ports.Source.{Ghosts}
use Rattle.rota_core.specs.InstanceTables.{InstanceTables}
use Rattle.rota_core.specs.Problem.{Problem}
use Rattle.rota_core.specs.Roster.{Roster}
use Rattle.rota_core.specs.declared.fault.FileName.{FileName}
use Rattle.rota_layout.specs.Files.{Spells}
use Rattle.rota_layout.specs.Layout.{Layout}
use Rattle.rota_read.specs.SolutionLayout.{SpellsRoster, solution}
use Rattle.rota_pb.specs.Extending.{BreaksRule}
use Rattle.rota_pb.specs.RunPorts.{IsRead, Reader, reader_of}
use Rattle.rota_pb.specs.WeekFiles.{read_file, read_roster}
use Rattle.rota_pb.specs.declared.fault.Fault.{Fault}
use Rattle.rota_pb.specs.declared.fault.Fault.TheVariants.{Answer, Breaks, File, Memory, NoRoster, Read, Unmet, Write}
use Rattle.inrc2pb_frame.specs.Contents.{IsKnown, LiesIn, content_of, file_in, roster_in}
use Rattle.byte_ports.specs.Paths.{FileAt, Path}
use Rattle.byte_ports.proofs.OpenedFiles.{IsNewAt}
use Rattle.inrc2pb_frame.proofs.Shows.{Shows, Tells, about, contents, lies, shows-file, tells}

module _ {F X : Type 0} (port : Ghosts F) (at : Path → FileAt) (known : (path : Path) → IsKnown (at path)) where
  -- the reader of a new file tells what lies at its path
  pub told : (path : String X) (old new : F) → IsNewAt port at path old → Tells (content_of at path) (reader_of port old new)
  told path old new is = tells port (at (string_bytes path)) old new (known (string_bytes path)) is

module _ {content : FileAt} {reader : Reader} (told_of : Tells content reader) where
  pub shows-spelled : {V : Type 0} (name : FileName) (layout : Layout V) → Shows about (read_file name layout reader) (file_in name layout content)
  shows-spelled name layout =
      shows-file name layout content reader told_of (IsRead (Spells layout) reader) (LiesIn content (Spells layout)) (λ value read. lies told_of read)

  pub shows-roster : (name : FileName) (tables : InstanceTables) → Shows about (read_roster name tables reader) (roster_in name tables content)
  shows-roster name tables =
      shows-file name (solution tables.scenario) content reader told_of _ (LiesIn content (SpellsRoster tables)) (λ roster read. lies told_of read.0)

-- a broken rule is a fault of the contents
pub breaks-about : (week : Problem) (roster : Roster) (fault : Fault) → BreaksRule week roster fault → about fault ≡ contents
breaks-about week roster (Breaks rule) breaks = refl
breaks-about week roster (File one) breaks = absurd breaks
breaks-about week roster Memory breaks = absurd breaks
breaks-about week roster Write breaks = absurd breaks
breaks-about week roster Read breaks = absurd breaks
breaks-about week roster (Answer one) breaks = absurd breaks
breaks-about week roster (NoRoster status) breaks = absurd breaks
breaks-about week roster (Unmet number) breaks = absurd breaks
