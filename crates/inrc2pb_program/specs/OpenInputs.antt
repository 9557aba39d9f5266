-- The inputs of a job, open.
use Rattle.std.specs.Prelude.{◌≡◌, false, true}
use Rattle.byte_ports.specs.declared.ports.Source.{Ghosts}
use Rattle.rota_pb.specs.RunPorts.{WeekReaders, reader_of}
use Rattle.inrc2pb_program.specs.Jobs.{[], Option, Some, None, option_map, string_bytes, Inputs, IsChoiceOf}
use Rattle.byte_ports.specs.Opening.{Opening, ◌>>=◌, end_as, open_at, open_if_named}
use Rattle.inrc2pb_program.specs.declared.optional_file.OptionalFile.{OptionalFile}
use Rattle.inrc2pb_program.specs.declared.optional_file.OptionalFile.TheVariants.{Named, Absent}
pub use Rattle.inrc2pb_program.specs.declared.open_inputs.OpenInputs.{OpenInputs}

-- the port of a file that a job names, or else of a file without bytes, at its end
abbrev pub optional_port : {F : Type 0} → Ghosts F → Ghosts (OptionalFile F)
optional_port port = record {
  left = elim [ Named file ↦ port.left file | Absent ↦ Some [] ];
  has_failed = elim [ Named file ↦ port.has_failed file | Absent ↦ false ];
  has_ended = elim [ Named file ↦ port.has_ended file | Absent ↦ true ];
}

-- the file, if there is one, otherwise the file without bytes
abbrev pub optional_of : {F : Type 0} → Option F → OptionalFile F
optional_of None = Absent
optional_of (Some file) = Named file

-- each input is opened at its own path, and the choices of the run are the choices of the inputs
abbrev pub open_inputs : {F : Type 0} → Ghosts F → Inputs → Opening (OpenInputs F)
open_inputs port inputs = do
  sce ← open_at port (string_bytes inputs.sce)
  his ← open_at port (string_bytes inputs.his)
  week ← open_at port (string_bytes inputs.week)
  fix ← open_if_named port (option_map string_bytes inputs.fix)
  end_as (λ opened. IsChoiceOf inputs opened.choice × (opened ≡ record {
    choice = opened.choice;
    sce = sce;
    his = his;
    week = week;
    fix = optional_of fix;
  }))

-- the readers of the inputs that are `old` before a run and `new` after it
abbrev pub readers_of : {F : Type 0} → Ghosts F → OpenInputs F → OpenInputs F → WeekReaders
readers_of port old new = record {
  scenario = reader_of port old.sce new.sce;
  history = reader_of port old.his new.his;
  week = reader_of port old.week new.week;
  fix = reader_of (optional_port port) old.fix new.fix;
}
