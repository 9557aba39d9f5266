-- A step that finds no value, and then the next one.
use Rattle.rota_pb.specs.Steps.{Step, ◌>>=◌}

infixl 10 ◌>>◌
-- the step, and then the next one, which does not depend on a value of the first one
abbrev pub ◌>>◌ : {B : Type 0} → Step (Unit {0}) → Step B → Step B
step >> next = step >>= λ _. next
