-- The opener of a call, and what it opened.
use Rattle.std.specs.Prelude.{◌≡◌, List, Result}
use Rattle.byte_ports.specs.declared.ports.Source.{Ghosts as SourceGhosts}
use Rattle.byte_ports.specs.declared.open_files.OpenFault.{OpenFault}
use Rattle.byte_ports.specs.Opening.{Opening}
use Rattle.byte_ports.specs.Paths.{FileAt, Path, PathLog, with_paths}
use Rattle.byte_ports.specs.declared.paths.Opens.{Ghosts as OpensGhosts}

-- The file opener: the ports it returns, the file system it sees before and after a call, and the paths opened before and after.
pub record Opener (F : Type 0) : Type 1 where
  pub port : SourceGhosts F
  pub at : Path → FileAt
  pub at_after : Path → FileAt
  pub log_before : PathLog
  pub log : PathLog

-- the opener with these contents of all paths, and these paths opened, before and after a call
abbrev pub opener_of : {F : Type 0} → SourceGhosts F → (at at_after : Path → FileAt) → (before after : PathLog) → Opener F
opener_of port at at_after before after = record { port = port; at = at; at_after = at_after; log_before = before; log = after }

-- the opener that is `old` before a call and `new` after it
abbrev pub opener_at : {O F : Type 0} → OpensGhosts O F → SourceGhosts F → O → O → Opener F
opener_at opens source old new = opener_of source (opens.at old) (opens.at new) (opens.log old) (opens.log new)

-- the call opened files as the step does, and ended with this result; the contents of all paths stay as they were
pub record OpensAs {F A : Type 0} (opener : Opener F) (step : Opening A) (result : Result A OpenFault) : Type 0 where
  pub asked : List Path
  pub ends : step.ends opener.at asked result
  pub log : opener.log ≡ with_paths opener.log_before asked
  pub same : opener.at_after ≡ opener.at
