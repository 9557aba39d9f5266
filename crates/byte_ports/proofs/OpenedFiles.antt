-- What was opened, file by file.
use Rattle.std.proofs.Common.{sym, subst, List, Ok}
use Rattle.std.specs.Prelude.{Option, Some, None, option_map, string_bytes}
use Rattle.std.specs.declared.string.String.{String}
use Rattle.byte_ports.specs.declared.ports.Source.{Ghosts}
use Rattle.byte_ports.specs.Opening.{Opening, OpensInTurn, open_if_named, stopped, went_on}
use Rattle.byte_ports.specs.Paths.{FileAt, IsNew, Path}

-- the value of the first step, and how the rest ended
pub went : {A B : Type 0} {step : Opening A} {next : A → Opening B} {at : Path → FileAt} {asked : List Path} {value : B} →
    OpensInTurn step next at asked (Ok value) →
    (found : A) × (first later : List Path) × step.ends at first (Ok found) × (next found).ends at later (Ok value)
went (stopped fault is ends) = absurd (cc is)
went (went_on found first later of_these ends rest) = (found, first, later, ends, rest)

module _ {F X : Type 0} (port : Ghosts F) (at : Path → FileAt) where
  -- the file is new, and of this path
  abbrev pub IsNewAt : String X → F → Type 0
  IsNewAt path file = IsNew port (at (string_bytes path)) file

  -- so it is if a path is named; otherwise there is none
  abbrev pub IsNewIfNamed : Option (String X) → Option F → Type 0
  IsNewIfNamed None None = Unit {0}
  IsNewIfNamed None (Some file) = ⊥
  IsNewIfNamed (Some path) None = ⊥
  IsNewIfNamed (Some path) (Some file) = IsNewAt path file

  pub new_if_named : (path : Option (String X)) (file : Option F) (asked : List Path) →
      (open_if_named port (option_map string_bytes path)).ends at asked (Ok file) → IsNewIfNamed path file
  new_if_named None file asked ends = subst (IsNewIfNamed None) (sym ends.1) tt
  new_if_named (Some path) file asked ends =
      let one = went ends in
      subst (IsNewIfNamed (Some path)) (sym one.4.1) one.3.1
