-- A run for several weeks as steps in their order. A step is one of `rota_pb`, and its fault may name a week.
use Rattle.std.specs.Prelude.{◌≡◌, ℕ, List, [], ◌∷◌, MatchResult, Result, Ok, Err}
use Rattle.rota_pb.specs.Steps.{Step, StepOf, ◌>>=◌, check}
use Rattle.rota_pb.specs.declared.fault.Fault.{Fault}
use Rattle.rota_pb.specs.declared.fault.Fault.TheVariants.{Memory}
use Rattle.rota_pb.specs.PeriodFaults.{fault_in_week}
use Rattle.rota_pb.specs.declared.period_fault.PeriodFault.{PeriodFault}
use Rattle.rota_pb.specs.declared.period_fault.PeriodFault.TheVariants.{Run}

-- a step of a run for several weeks
abbrev pub PeriodStep : Type 0 → Type 1
PeriodStep = StepOf PeriodFault

-- a step at no port that stops only if memory runs out
abbrev pub make : {A : Type 0} → (A → Type 0) → PeriodStep A
make Finds = check Finds (λ fault. fault ≡ Run Memory)

-- a step of `rota_pb`; `named` gives the fault of the whole run for the step's fault
abbrev pub renamed : {A : Type 0} → (named : Fault → PeriodFault) → Step A → PeriodStep A
renamed {A} named step = record {
  ends = λ result. MatchResult result (λ found. step.ends (Ok found)) (λ fault. (one : Fault) × (fault ≡ named one) × step.ends (Err one));
  untouched = step.untouched;
}

-- a step for all weeks
abbrev pub for_all : {A : Type 0} → Step A → PeriodStep A
for_all step = renamed Run step

-- a step for the week with this index, of this number of weeks
abbrev pub for_week : {A : Type 0} → (weeks index : ℕ) → Step A → PeriodStep A
for_week weeks index step = renamed (fault_in_week weeks index) step

-- what a run reads, if anything: nothing, or by these readers, or the run let it go
pub data Optional (R : Type 1) : Type 1 where
  absent : Optional R
  read_by : R → Optional R
  let_go : Optional R

-- the step at a file that the run let go: no run ends with it, and none has left it out, since nothing tells what was read from the file
abbrev pub lost : {F A : Type 0} → StepOf F A
lost = record { ends = λ result. ⊥; untouched = ⊥ }

-- a step for each of these, in their order, from the value that was found before them
unfoldable pub in_turn : {X : Type 0} {R : Type 1} → (X → R → PeriodStep X) → X → List (Optional R) → PeriodStep X
in_turn step found [] = check (λ end. end ≡ found) (λ fault. ⊥)
in_turn step found (read_by one ∷ later) = step found one >>= λ more. in_turn step more later
in_turn step found (_ ∷ later) = lost

-- the result ends the step, if what is found is seen in this way
abbrev pub EndsAs : {A B E : Type 0} → (B → A) → (Result A E → Type 0) → Result B E → Type 0
EndsAs view Ends result = MatchResult result (λ found. Ends (Ok (view found))) (λ fault. Ends (Err fault))
