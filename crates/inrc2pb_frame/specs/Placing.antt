-- The file that a job writes gets its path.
use Rattle.std.specs.Prelude.{◌≡◌, Option, None}
use Rattle.rota_pb.specs.RunPorts.{RunPort}
pub use Rattle.byte_ports.specs.Paths.{Path}
pub use Rattle.byte_ports.specs.declared.ports.Target.{Ghosts as TargetGhosts}

-- a file that a job may write: a target that may have a path
pub record FileGhosts (F : Type 0) : Type 1 where
  pub target : TargetGhosts F
  pub path : F → Option Path

-- these ghosts of a target, and its path
abbrev pub file_ghosts : {F : Type 0} → TargetGhosts F → (F → Option Path) → FileGhosts F
file_ghosts target path = record { target = target; path = path }

-- the file `placed` is `old` with this path: nothing was written to it, and it has failed only if it had failed before
pub record IsPlaced {F : Type 0} (port : FileGhosts F) (old : F) (to : Option Path) (placed : F) : Type 0 where
  pub path : port.path placed ≡ to
  pub sound : port.target.has_failed placed ≡ port.target.has_failed old
  pub unwritten : port.target.sent placed ≡ port.target.sent old

-- the file has no path yet, and the output has none
pub record HaveNoPath (file_path output_path : Option Path) : Type 0 where
  pub file : file_path ≡ None
  pub output : output_path ≡ None

-- the file that a job may write
abbrev pub JobFile : Type 1
JobFile = RunPort FileGhosts

-- the file that is `old` before the program and `new` after it
abbrev pub file_of : {F : Type 0} → TargetGhosts F → (F → Option Path) → F → F → JobFile
file_of {F} target path old new = record { State = F; port = file_ghosts target path; old = old; new = new }
