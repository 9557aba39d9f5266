use Rattle.solver_text.proofs.ReadLaws.{begins-skipped}
use Rattle.solver_text.proofs.line_state.begins_skipped.Goals as goal

pub returns-in-Some : goal.returns-in-Some
returns-in-Some c = λ yes known.
    rw c.in-Some.ensures.cases.0 (begins-skipped known _ _ _ _ c.keyword_of.ensures c.is_none.ensures yes)
