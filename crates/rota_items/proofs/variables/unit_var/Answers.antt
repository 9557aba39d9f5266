use Rattle.rota_items.proofs.variables.unit_var.Goals as goal

pub returns-clause-limits : goal.returns-clause-limits
returns-clause-limits c = c.cell_count.ensures.limits
