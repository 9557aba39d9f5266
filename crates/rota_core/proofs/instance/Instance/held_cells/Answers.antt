use Rattle.std.proofs.Common.{◌∙◌}
use Rattle.std.proofs.lemmas.List.Elements.{All-same}
use Rattle.rota_core.specs.InstanceTables.{problem_of}
use Rattle.rota_core.specs.Roster.{InWeek}
use Rattle.rota_core.proofs.HeldCells.{cells-held, cells-none_held, held-inside}
use Rattle.rota_core.proofs.instance.Instance.held_cells.Goals as goal

pub returns-in-Some-clause-cells : goal.returns-in-Some-clause-cells
returns-in-Some-clause-cells c = rw (← c.self.view_is) (c.cells.ensures ∙ cells-held _ c.self.invariant c.in-Some.roster c.in-Some.is)

pub returns-in-Some-clause-inside : goal.returns-in-Some-clause-inside
returns-in-Some-clause-inside c =
    All-same (InWeek (problem_of c.args.self.now)) c.cells.result _ (returns-in-Some-clause-cells c)
    (rw (← c.self.view_is) (held-inside _ c.self.invariant))

pub returns-in-None-clause-cells : goal.returns-in-None-clause-cells
returns-in-None-clause-cells c = rw (← c.self.view_is) (c.at.ensures ∙ cells-none_held _ c.self.invariant c.in-None.is)
