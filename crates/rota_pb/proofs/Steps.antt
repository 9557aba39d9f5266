-- Runs that stop at a step.
use Rattle.std.proofs.Common.{◌≡◌, Result, Ok, Err, ap}
use Rattle.std.specs.Prelude.{IsErrAnd}
use Rattle.rota_pb.specs.Steps.{EndsInTurn, StepOf, stopped}

pub is_fault : {F A : Type 0} (result : Result A F) (fault : F) → IsErrAnd result (λ e. e ≡ fault) → result ≡ Err fault
is_fault (Ok value) fault is = absurd is
is_fault (Err e) fault is = ap Err is

-- the run ends with the fault of the step
pub stopped_by : {F A B : Type 0} {step : StepOf F A} {next : A → StepOf F B} (result : Result B F) (fault : F) → IsErrAnd result (λ e. e ≡ fault) →
    step.ends (Err fault) → ((found : A) → (next found).untouched) → EndsInTurn step next result
stopped_by result fault is ends untouched = stopped fault (is_fault result fault is) ends untouched
