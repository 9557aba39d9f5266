use Rattle.std.proofs.Common.{ap, ◌∙◌}
use Rattle.rota_core.specs.InstanceTables.{problem_of}
use Rattle.rota_core.specs.CellIndex.{cell_index}
use Rattle.rota_core.proofs.instance.Instance.index_of.Goals as goal

pub returns-clause-index : goal.returns-clause-index
returns-clause-index c =
    let problem = problem_of c.args.self.now in
    c.index_of_cell.ensures.index ∙ ap (λ shifts. cell_index shifts c.skills.result c.args.cell) c.shifts.ensures.count ∙
    ap (λ skills. cell_index problem.shifts skills c.args.cell) c.skills.ensures.count
