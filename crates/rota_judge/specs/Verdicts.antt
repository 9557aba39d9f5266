-- The verdict of a judge about an assignment and its roster.
use Rattle.std.specs.Prelude.{◌≡◌, ◌⊎◌, ◌↔◌, ℕ, ◌≤◌, pos, Bool, true, Option, drop, map, sum, IfSome, IsSomeAnd, MatchOption}
use Rattle.std.specs.List.{position}
use Rattle.rota_core.specs.declared.rule.Rule.{Rule}
use Rattle.rota_core.specs.Problem.{Problem}
use Rattle.rota_core.specs.Roster.{Roster}
use Rattle.rota_core.specs.HardRules.{KeepsOneCell, KeepsCompetitionRules, KeepsHardRules}
use Rattle.rota_judge.specs.FirstUnmet.{FirstBroken, first_unmet}
use Rattle.rota_core.specs.Rules.{is_rule, soft_rules}
use Rattle.rota_judge.specs.declared.judge.verdicts.Verdict.{Verdict}
use Rattle.rota_items.specs.RuleItems.{is_soft}
use Rattle.rota_items.specs.Variables.{unit_number, roster_of}
use Rattle.rota_items.specs.Linear.{SatisfiesModel, objective_value}
use Rattle.rota_items.specs.ModelCosts.{model_cost}
use Rattle.rota_rules.specs.Penalty.{penalty, rule_cost}
use Rattle.rota_items.specs.WeekModel.{model_of, rows_of}
use Rattle.rota_judge.specs.Extensions.{extension_of}

-- the index of a soft rule among the soft rules, from 0
abbrev pub soft_index : Rule → Option ℕ
soft_index rule = position (is_rule rule) soft_rules

-- The verdict names the first constraint that the assignment does not satisfy, and gives the objective's value and the charge of each
-- soft rule on the roster.
pub record Judges (problem : Problem) (assignment : ℕ → Bool) (roster : Roster) (verdict : Verdict) : Type 0 where
  pub unmet : verdict.unmet ≡ first_unmet assignment (rows_of problem)
  pub objective : pos verdict.objective ≡ objective_value assignment (model_of problem)
  pub costs : map pos verdict.costs ≡ map (model_cost problem roster) soft_rules

-- The costs are the costs of the rules, and their sum is the penalty.
pub record CostsTheRules (problem : Problem) (roster : Roster) (verdict : Verdict) : Type 0 where
  pub costs : verdict.costs ≡ map (rule_cost problem roster) soft_rules
  pub sum_is : sum verdict.costs ≡ penalty problem roster

-- no constraint is named, or one of a soft rule
abbrev pub NamesSoftAtMost : Verdict → Type 0
NamesSoftAtMost verdict = IfSome verdict.unmet (λ unmet. is_soft unmet.1 ≡ true)

-- The verdict about the rules.
pub record JudgesTheRules (problem : Problem) (assignment : ℕ → Bool) (roster : Roster) (verdict : Verdict) : Type 0 where
  -- no hard constraint is named if and only if the unit variable is true and the roster keeps the hard rules
  pub hard : NamesSoftAtMost verdict ↔ ((assignment (unit_number problem) ≡ true) × KeepsHardRules problem roster)
  -- if the unit variable is true, the named rule is the first that the roster breaks, if it breaks one
  pub first_broken : assignment (unit_number problem) ≡ true →
      KeepsHardRules problem roster ⊎ IsSomeAnd verdict.unmet (λ unmet. FirstBroken problem roster unmet.1)
  pub costs : KeepsCompetitionRules problem roster → CostsTheRules problem roster verdict
  -- if the roster keeps H1, the costs of all soft rules but the first, S1, agree with the rules
  pub later_costs : KeepsOneCell problem roster → drop 1 verdict.costs ≡ map (rule_cost problem roster) (drop 1 soft_rules)

-- The assignment satisfies the model, and its roster keeps the hard rules at a penalty of at most the objective.
pub record IsMet (problem : Problem) (assignment : ℕ → Bool) (verdict : Verdict) : Type 0 where
  pub satisfies : SatisfiesModel assignment (model_of problem)
  pub keeps : KeepsHardRules problem (roster_of problem assignment)
  pub costs_rules : CostsTheRules problem (roster_of problem assignment) verdict
  pub penalty_at_most : penalty problem (roster_of problem assignment) ≤ verdict.objective

-- No constraint is named if and only if the assignment satisfies the model.
abbrev pub IsMetOrNot : Problem → (ℕ → Bool) → Verdict → Type 0
IsMetOrNot problem assignment verdict =
    MatchOption verdict.unmet
    (IsMet problem assignment verdict)
    (λ _. SatisfiesModel assignment (model_of problem) → ⊥)

-- The roster keeps the hard rules, and its extension satisfies the model at its penalty.
pub record ExtendsToModel (problem : Problem) (roster : Roster) (verdict : Verdict) : Type 0 where
  pub keeps : KeepsHardRules problem roster
  pub satisfies : SatisfiesModel (extension_of problem roster) (model_of problem)
  pub costs_rules : CostsTheRules problem roster verdict
  pub objective : verdict.objective ≡ penalty problem roster

-- A constraint is named if and only if the roster breaks a hard rule. It belongs to the first rule that the roster breaks.
abbrev pub ExtendsOrBreaks : Problem → Roster → Verdict → Type 0
ExtendsOrBreaks problem roster verdict =
    MatchOption verdict.unmet
    (ExtendsToModel problem roster verdict)
    (λ unmet. FirstBroken problem roster unmet.1)
