use Rattle.std.proofs.Common.{◌≡◌, ◌≤◌, length}
use Rattle.solver_text.specs.LineStates.{take_bytes}
use Rattle.solver_text.specs.States.{known_of, line_of}
use Rattle.solver_text.specs.declared.line_state.Line.TheVariants as at
use Rattle.solver_text.proofs.answer.Answer.skip_lines.Given as goal

abbrev pub invariant-loop-end : goal.invariant-loop-end
invariant-loop-end l = record {
  taken : take_bytes (known_of l.fn.self.known) (line_of l.fn.self) l.fn.bytes ≡ take_bytes (known_of l.self.known) (line_of l.self) l.rest;
  skipped : (line_of l.self).line ≡ at.Skipped;
  no_longer : length l.rest ≤ length l.fn.bytes;
}

abbrev pub decreases-loop-end : goal.decreases-loop-end
decreases-loop-end l = length l.rest
