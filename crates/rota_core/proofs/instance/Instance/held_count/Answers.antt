use Rattle.std.proofs.Common.{◌∙◌}
use Rattle.rota_core.proofs.HeldCells.{count-held, count-none_held}
use Rattle.rota_core.proofs.instance.Instance.held_count.Goals as goal

pub returns-in-Some : goal.returns-in-Some
returns-in-Some c = rw (← c.self.view_is) (c.count.ensures.count ∙ count-held _ c.self.invariant c.in-Some.roster c.in-Some.is)

pub returns-in-None : goal.returns-in-None
returns-in-None c = rw (← c.self.view_is) (count-none_held _ c.self.invariant c.in-None.is)
