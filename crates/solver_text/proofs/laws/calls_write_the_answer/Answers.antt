use Rattle.solver_text.proofs.AnswerRows.{written-answer_text}
use Rattle.solver_text.proofs.laws.calls_write_the_answer.Goals as goal

pub returns : goal.returns
returns c = written-answer_text
