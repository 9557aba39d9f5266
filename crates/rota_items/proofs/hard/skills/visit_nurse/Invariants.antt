use Rattle.rota_items.proofs.Common.{problem_of, h4_rows_at}
use Rattle.rota_items.proofs.LoopSteps.{RowSteps}
use Rattle.rota_items.proofs.hard.skills.visit_nurse.Given as goal

abbrev pub invariant-loop-skill : goal.invariant-loop-skill
invariant-loop-skill g l =
    let problem = problem_of l.fn.instance in
    RowSteps g.T.RowTaker problem l.skill problem.skills (h4_rows_at problem l.fn.nurse) l.fn.taker l.taker
