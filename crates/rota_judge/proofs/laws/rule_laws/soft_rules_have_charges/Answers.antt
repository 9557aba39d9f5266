use Rattle.rota_judge.proofs.Common.Imports.{◌≡◌, Rule, refl, is_soft}
use Rattle.std.specs.Prelude.{is_some}
use Rattle.rota_items.specs.RuleItems.{charge_of}
use Rattle.rota_judge.proofs.laws.rule_laws.soft_rules_have_charges.Goals as goal

-- rule by rule
is_charged : (rule : Rule) → is_some (charge_of rule) ≡ is_soft rule
is_charged Rule.Unit = refl
is_charged _ = refl

pub returns : goal.returns
returns c = is_charged
