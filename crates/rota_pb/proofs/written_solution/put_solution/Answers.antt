use Rattle.std.proofs.Common.{◌∙◌}
use Rattle.rota_core.specs.InstanceTables.{problem_of}
use Rattle.rota_core.specs.RosterTables.{set_of}
use Rattle.rota_core.specs.RosterCells.{cells_of}
use Rattle.rota_read.specs.SolutionText.{text_of_cells}
use Rattle.text_sink.proofs.LogicWords.{puts_exit, puts_stop, puts_then}
use Rattle.rota_read.specs.SolutionText.{rows_text}
use Rattle.rota_pb.proofs.written_solution.put_solution.Goals as goal

pub returns-in_err-put_heading-clause-takes : goal.returns-in_err-put_heading-clause-takes
unfolding text_of_cells
returns-in_err-put_heading-clause-takes g c =
    let problem = problem_of c.args.instance.now in
    let roster = c.args.roster.now in
    let counted =
    c.count.ensures.count
    ∙ (c.rosters_list_their_cells.ensures.tables problem roster c.requires.shape).count c.count.ensures.within in
    puts_exit _ c.from_residual.ensures.0
    (puts_stop (rows_text c.args.instance.now (cells_of problem (set_of roster))) (rw counted at c.in_err-put_heading.ensures.takes))

pub returns-clause-takes : goal.returns-clause-takes
unfolding text_of_cells
returns-clause-takes g c =
    let problem = problem_of c.args.instance.now in
    let counted =
    c.count.ensures.count
    ∙ (c.rosters_list_their_cells.ensures.tables problem c.args.roster.now c.requires.shape).count c.count.ensures.within in
    puts_then (rw counted at c.in_ok-put_heading.ensures.takes) c.put_assignments.ensures
