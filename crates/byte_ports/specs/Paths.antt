-- The contents of a path, and the paths that were asked for.
use Rattle.std.specs.Prelude.{◌≡◌, ℕ, List, [], ◌∷◌, ◌++◌, false, Option, Some, option_map, ⊤}
use Rattle.byte_ports.specs.declared.ports.Source.{Ghosts}

-- the bytes of a path
abbrev pub Path : Type 0
Path = List ℕ

-- the contents of a path: they are unknown, or no file opens there, or there is a file with these bytes
pub data FileAt : Type 0 where
  unknown : FileAt
  nothing : FileAt
  file_of : List ℕ → FileAt

-- it may be that no file opens there: nothing is known, or there is none
abbrev pub MayRefuse : FileAt → Type 0
MayRefuse unknown = ⊤
MayRefuse nothing = ⊤
MayRefuse (file_of bytes) = ⊥

-- the open file has the contents of the path
abbrev pub HasContent : {F : Type 0} → Ghosts F → FileAt → F → Type 0
HasContent port unknown file = ⊤
HasContent port nothing file = ⊥
HasContent port (file_of bytes) file = port.left file ≡ Some bytes

-- the file has the contents of its path, and no read has failed or reported the end
pub record IsNew {F : Type 0} (port : Ghosts F) (content : FileAt) (file : F) : Type 0 where
  pub given : HasContent port content file
  pub sound : port.has_failed file ≡ false
  pub unended : port.has_ended file ≡ false

-- the paths that were asked for, if they are known
abbrev pub PathLog : Type 0
PathLog = Option (List Path)

-- the paths with these after them
abbrev pub with_paths : PathLog → List Path → PathLog
with_paths log paths = option_map (λ (before : List Path). before ++ paths) log

-- this path was asked for, and the contents of all paths stay as they were
pub record AsksFor (path : Path) (at_old at_new : Path → FileAt) (log_old log_new : PathLog) : Type 0 where
  pub log : log_new ≡ with_paths log_old (path ∷ [])
  pub same : at_new ≡ at_old
