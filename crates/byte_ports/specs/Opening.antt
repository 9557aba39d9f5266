-- Files that are opened one after the other, as steps in their order.
use Rattle.std.specs.Prelude.{◌≡◌, List, [], ◌∷◌, ◌++◌, MatchResult, Option, Some, None, Result, Ok, Err}
use Rattle.byte_ports.specs.declared.ports.Source.{Ghosts}
use Rattle.byte_ports.specs.declared.open_files.OpenFault.{OpenFault}
use Rattle.byte_ports.specs.declared.open_files.OpenFault.TheVariants.{Memory, Read}
use Rattle.byte_ports.specs.Paths.{FileAt, IsNew, MayRefuse, Path}

-- A step that opens files. `ends` says that with these contents of all paths it may ask for these paths, one after the other, and then find
-- this value, or stop with this fault.
pub record Opening (A : Type 0) : Type 1 where
  pub ends : (Path → FileAt) → List Path → Result A OpenFault → Type 0

-- One step, and then the rest. If the step ends with a fault, so do both, and no other path is asked for.
pub data OpensInTurn {A B : Type 0} (step : Opening A) (next : A → Opening B) (at : Path → FileAt) (asked : List Path)
    (result : Result B OpenFault) : Type 0 where
  stopped : (fault : OpenFault) → result ≡ Err fault → step.ends at asked (Err fault) → OpensInTurn step next at asked result
  went_on : (found : A) (first later : List Path) → asked ≡ first ++ later → step.ends at first (Ok found) →
      (next found).ends at later result → OpensInTurn step next at asked result

infixl 10 ◌>>=◌
-- the step, and then the next one, which depends on the value that the first one finds
abbrev pub ◌>>=◌ : {A B : Type 0} → Opening A → (A → Opening B) → Opening B
step >>= next = record { ends = OpensInTurn step next }

-- no path is asked for: the result is a value for which `Finds` holds, or a fault for which `Stops` holds
abbrev pub asks_none : {A : Type 0} → (A → Type 0) → (OpenFault → Type 0) → Opening A
asks_none Finds Stops = record { ends = λ at asked result. (asked ≡ []) × MatchResult result Finds Stops }

-- the value for which `Finds` holds
abbrev pub end_as : {A : Type 0} → (A → Type 0) → Opening A
end_as Finds = asks_none Finds (λ fault. ⊥)

-- memory for what comes next, unless it runs out
abbrev pub make_room : Opening (Unit {0})
make_room = asks_none (λ _. Unit {0}) (λ fault. fault ≡ Memory)

-- the path is asked for: the result is the new file there, or `Read` if none opens
abbrev pub open_at : {F : Type 0} → Ghosts F → Path → Opening F
open_at port path = record {
  ends = λ at asked result. (asked ≡ path ∷ []) ×
      MatchResult result (IsNew port (at path)) (λ fault. MayRefuse (at path) × (fault ≡ Read));
}

-- the file at the path, if there is one
abbrev pub open_if_named : {F : Type 0} → Ghosts F → Option Path → Opening (Option F)
open_if_named port None = end_as (λ file. file ≡ None)
open_if_named port (Some path) = do
  file ← open_at port path
  end_as (λ named. named ≡ Some file)
