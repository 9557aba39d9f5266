use Rattle.rota_items.proofs.Common.{arith, nat_tests, problem_of}
use Rattle.rota_items.proofs.ObjectiveTaking.{length-objective_terms}
use Rattle.rota_items.proofs.objective.has_term.Goals.{then-has_cell_terms, else-has_cell_terms}
use Rattle.rota_items.proofs.objective.has_term.Goals as goal

pub returns-then-constant-gt0 : goal.returns-then-constant-gt0
returns-then-constant-gt0 c =
    let terms = length-objective_terms (problem_of c.args.instance.now) in
    elim c.if-has_cell_terms.branch [
      | then-has_cell_terms w ↦ grind (arith, nat_tests, terms, c.has_cell_terms.ensures)
      | else-has_cell_terms w ↦ grind (arith, nat_tests, terms, w.constant.ensures)
    ]

pub returns-else-constant-gt0 : goal.returns-else-constant-gt0
returns-else-constant-gt0 c =
    let terms = length-objective_terms (problem_of c.args.instance.now) in
    elim c.if-has_cell_terms.branch [
      | then-has_cell_terms w ↦ grind (arith, nat_tests, terms, c.has_cell_terms.ensures)
      | else-has_cell_terms w ↦ grind (arith, nat_tests, terms, c.has_cell_terms.ensures, w.constant.ensures)
    ]
