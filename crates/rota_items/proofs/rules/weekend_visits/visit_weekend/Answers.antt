use Rattle.rota_items.proofs.Common.{[], ◌∷◌, ap, problem_of, charged_items, exits, goes_on, stop, items_join}
use Rattle.rota_items.proofs.Common.{Pattern, only_sunday, saturday, pattern_refused, pattern_takes, pattern_took}
use Rattle.rota_items.proofs.rules.weekend_visits.visit_weekend.Goals as goal

pub returns-in_err-item : goal.returns-in_err-item
returns-in_err-item g c =
    let items = charged_items (problem_of c.args.instance.now) c.args.charge in
    exits _ _ _ _ c.from_residual.ensures.0
    (stop (items_join _) (items (saturday c.args.alone ∷ [])) (items (only_sunday ∷ [])) _ _
    (pattern_refused g.T.ItemTaker _ c.args.charge _ _ _ (c.pattern_item.ensures.item (problem_of c.args.instance.now))
    (ap (λ (p : Pattern). p ∷ []) c.saturday.ensures.pattern) _ _ c.in_err-item.ensures))

pub returns : goal.returns
returns g c =
    let items = charged_items (problem_of c.args.instance.now) c.args.charge in
    goes_on (items_join _) (items (saturday c.args.alone ∷ [])) (items (only_sunday ∷ [])) _ _ _ _
    (pattern_took g.T.ItemTaker _ c.args.charge _ _ _ (c.pattern_item.ensures.item (problem_of c.args.instance.now))
    (ap (λ (p : Pattern). p ∷ []) c.saturday.ensures.pattern) _ _ c.in_ok-item.ensures)
    (pattern_takes g.T.ItemTaker _ c.args.charge _ _ _ (c.pattern_item-2.ensures.item (problem_of c.args.instance.now))
    (ap (λ (p : Pattern). p ∷ []) c.only_sunday.ensures.pattern) _ _ _ c.item-2.ensures)
