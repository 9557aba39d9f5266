use Rattle.rota_core.specs.InstanceTables.{problem_of}
use Rattle.rota_core.proofs.CellIndices.{cell_at-in, index-cell_at}
use Rattle.rota_core.proofs.instance.Instance.cell.Goals as goal

pub returns-clause-in_week : goal.returns-clause-in_week
returns-clause-in_week c =
    let problem = problem_of c.args.self.now in
    rw (c.cell_at_index.ensures, c.shifts.ensures.count, c.skills.ensures.count)
    (cell_at-in problem c.args.index c.requires)

pub returns-clause-index : goal.returns-clause-index
returns-clause-index c =
    rw (c.cell_at_index.ensures, c.shifts.ensures.count, c.skills.ensures.count)
    (let problem = problem_of c.args.self.now in index-cell_at problem.shifts problem.skills c.args.index)
