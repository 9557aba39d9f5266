use Rattle.std.proofs.Common.{◌≡◌, ◌≤◌, length}
use Rattle.solver_text.specs.Answers.{AnswerState}
use Rattle.solver_text.specs.LineStates.{start, take_bytes}
use Rattle.solver_text.proofs.line_state.after_empty_lines.Given as goal

abbrev pub invariant-loop-b : goal.invariant-loop-b
invariant-loop-b l = record {
  passes : (known : AnswerState) → take_bytes known start l.fn.bytes ≡ take_bytes known start l.rest;
  no_longer : length l.rest ≤ length l.fn.bytes;
}

abbrev pub decreases-loop-b : goal.decreases-loop-b
decreases-loop-b l = length l.rest
