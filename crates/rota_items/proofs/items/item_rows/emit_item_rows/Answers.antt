use Rattle.rota_items.proofs.Common.{◌+◌, ap, numbered_list, rules}
use Rattle.rota_items.proofs.ItemRows.{gives_rows, handed_on}
use Rattle.rota_items.proofs.items.item_rows.emit_item_rows.Goals as goal

pub returns : goal.returns
unfolding numbered_list
returns g c =
    handed_on gives_rows g.T.Taker _ c.visit_soft_items.new.taker (λ it. it.taker.ghost_name) (λ it. it.taker.now) (λ it. it.next)
    c.args.instance.now c.unit_var.ensures.limits (ap (λ n. n + 1) c.unit_var.ensures.number) c.visit_soft_items.result _ (search rules)
    c.visit_soft_items.ensures
