use Rattle.std.specs.Prelude.{◌≡◌}
use Rattle.solver_text.specs.AnswerWriter.{phase_of}
use Rattle.solver_text.specs.declared.answer_writer.Phase.TheVariants.{Started}
use Rattle.call_tests.proofs.written_answers.put_literals.Given as goal

abbrev pub invariant-loop-truth : goal.invariant-loop-truth
invariant-loop-truth g l = phase_of l.writer ≡ Started
