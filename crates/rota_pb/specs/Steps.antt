-- A run as steps in their order. A step reads from a reader, checks, or sends a text to a writer, and the run may stop at it.
use Rattle.std.specs.Prelude.{◌≡◌, ℕ, Bool, List, MatchBool, MatchResult, Result, Ok, Err}
use Rattle.rota_pb.specs.Imports.{Fault, Write}
use Rattle.rota_pb.specs.RunPorts.{IsUntouched, RunPort, Writer, WritesBeginning, WritesText}

-- A run or a step of one, with faults of a type. `ends` says that it may find this value, or stop with this fault, and leave its ports in
-- their `new` states. `untouched` says that it was not started: its readers and writers are unchanged.
pub record StepOf (F A : Type 0) : Type 1 where
  pub ends : Result A F → Type 0
  pub untouched : Type 0

-- a step of a run for one week
abbrev pub Step : Type 0 → Type 1
Step = StepOf Fault

-- One step, and then the rest of the run. If the step ends with a fault, so does the run, and the rest is not started, for whichever
-- value the step could have found.
pub data EndsInTurn {F A B : Type 0} (step : StepOf F A) (next : A → StepOf F B) (result : Result B F) : Type 0 where
  stopped : (fault : F) → result ≡ Err fault → step.ends (Err fault) → ((found : A) → (next found).untouched) →
      EndsInTurn step next result
  went_on : (found : A) → step.ends (Ok found) → (next found).ends result → EndsInTurn step next result

infixl 10 ◌>>=◌
-- the step, and then the next one, which depends on the value that the first one finds
abbrev pub ◌>>=◌ : {F A B : Type 0} → StepOf F A → (A → StepOf F B) → StepOf F B
◌>>=◌ {F} {A} step next = record { ends = EndsInTurn step next; untouched = step.untouched × ((found : A) → (next found).untouched) }

-- the only step of a run at this port: the result is a value for which `Finds` holds, or a fault for which `Stops` holds
abbrev pub call : {Ghosts : Type 0 → Type 1} {A : Type 0} → RunPort Ghosts → (A → Type 0) → (Fault → Type 0) → Step A
call port Finds Stops = record { ends = λ result. MatchResult result Finds Stops; untouched = IsUntouched port }

-- a step at no port: the result is a value for which `Finds` holds, or a fault for which `Stops` holds
abbrev pub check : {F A : Type 0} → (A → Type 0) → (F → Type 0) → StepOf F A
check Finds Stops = record { ends = λ result. MatchResult result Finds Stops; untouched = Unit {0} }

-- a step at no port that never stops: the result is a value for which `Finds` holds
abbrev pub find : {A : Type 0} → (A → Type 0) → Step A
find Finds = check Finds (λ fault. ⊥)

-- sends a text: all of it is written and flushed, or the writer fails after a prefix of it, and the fault is `Write`
abbrev pub send : Writer → List ℕ → Step (Unit {0})
send writer text = call writer (λ _. WritesText writer text) (λ fault. (fault ≡ Write) × WritesBeginning writer text)

-- a step that is run only if it is asked for; otherwise it is not started, and the result is the given value
abbrev pub only_if_asked : {A : Type 0} → Bool → A → Step A → Step A
only_if_asked asked given step =
    record step { ends = λ result. MatchBool asked (step.ends result) (step.untouched × (result ≡ Ok given)) }
