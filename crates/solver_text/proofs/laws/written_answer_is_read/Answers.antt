use Rattle.solver_text.proofs.ReadBack.{written-is_read}
use Rattle.solver_text.proofs.laws.written_answer_is_read.Goals as goal

pub returns : goal.returns
returns c = written-is_read c.numerals_read_back.ensures
