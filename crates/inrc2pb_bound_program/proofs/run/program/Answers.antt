use Rattle.inrc2pb_bound_program.proofs.run.program.Goals as goal

pub returns : goal.returns
returns g c = (c.run.result, c.run.ensures, c.exit_code.ensures)
