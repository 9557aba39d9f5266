use Rattle.rota_core.specs.InstanceTables.{problem_of}
use Rattle.opb_text.proofs.PutModel.{line_failed, terms_failed, rows_put}
use Rattle.opb_text.proofs.whole_model.put_model.Goals as goal

pub returns-in_err-first_line-clause-takes : goal.returns-in_err-first_line-clause-takes
returns-in_err-first_line-clause-takes g c =
    line_failed (problem_of c.args.instance.now) (c.constraints_are_no_objective.ensures (problem_of c.args.instance.now)) _ _
    c.counts.ensures.variables c.counts.ensures.constraints _ c.from_residual.ensures.0 c.in_err-first_line.ensures.takes

pub returns-in_err-drive_objective-clause-takes : goal.returns-in_err-drive_objective-clause-takes
returns-in_err-drive_objective-clause-takes g c =
    terms_failed (problem_of c.args.instance.now) (c.constraints_are_no_objective.ensures (problem_of c.args.instance.now)) _ _
    c.counts.ensures.variables c.counts.ensures.constraints _ c.from_residual-in_err-drive_objective.ensures.0
    c.in_ok-first_line.ensures.takes c.in_err-drive_objective.ensures

pub returns-clause-takes : goal.returns-clause-takes
returns-clause-takes g c =
    rows_put (problem_of c.args.instance.now) (c.constraints_are_no_objective.ensures (problem_of c.args.instance.now)) _ _
    c.counts.ensures.variables c.counts.ensures.constraints _ _ _ _
    c.in_ok-first_line.ensures.takes c.in_ok-drive_objective.ensures c.drive_constraints.ensures
