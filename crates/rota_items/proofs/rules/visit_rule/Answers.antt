use Rattle.rota_items.proofs.ItemLists.{demand_items-are}
use Rattle.rota_items.proofs.rules.visit_rule.Goals as goal

pub returns-in-S1 : goal.returns-in-S1
returns-in-S1 g c = rw (demand_items-are _ _ c.in-S1.is) c.visit.ensures
