use Rattle.rota_judge.proofs.Common.{All-from_recursion, soft_items}
use Rattle.rota_items.proofs.ItemLemmas.{HasEnough, each-item}
use Rattle.rota_judge.proofs.laws.rule_laws.no_item_lacks_more_than_its_slacks.Goals as goal

pub returns : goal.returns
returns c = λ week roster keeps.
    All-from_recursion (HasEnough roster) (soft_items week) (each-item week (HasEnough roster) (λ _ _ _ sound. sound.enough roster keeps))
