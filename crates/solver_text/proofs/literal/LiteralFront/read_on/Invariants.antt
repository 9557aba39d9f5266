use Rattle.std.proofs.Common.{◌≡◌, ◌≤◌, ℕ, List, length}
use Rattle.solver_text.specs.Answers.{AnswerState}
use Rattle.solver_text.specs.LineStates.{in_word, take_bytes}
use Rattle.solver_text.proofs.literal.LiteralFront.read_on.Given as goal

abbrev pub invariant-loop-b : goal.invariant-loop-b
invariant-loop-b l = (((known : AnswerState) (word : List ℕ) →
    take_bytes known (in_word l.fn.self word) l.fn.bytes ≡ take_bytes known
    (in_word l.front word) l.rest)) × (length l.rest ≤ length l.fn.bytes)

abbrev pub decreases-loop-b : goal.decreases-loop-b
decreases-loop-b l = length l.rest
