-- The meaning of a verdict for the model and for the rules, for bits and for a roster's extension.
use Rattle.rota_judge.proofs.Common.Imports.{◌≡◌, ◌↔◌, ℕ, ◌+◌, Bool, true, false, ◌⊎◌, inl, inr, List, [], ◌∷◌, map, map-id, map-map, sym, ap, ◌∙◌}
use Rattle.rota_judge.proofs.Common.Imports.{arith, rules, Some, None, pos, if◌then◌else◌, IfSome, MatchOption, AllByRecursion, All-from_recursion}
use Rattle.rota_judge.proofs.Common.Imports.{recursion_from_All, cases_Bool, ints, sum, drop, refl, not, list_all, and_parts, true≢false, IsSomeAnd}
use Rattle.rota_judge.proofs.Common.Imports.{KeepsCompetitionRules, KeepsHardRules, KeepsOneCell, FirstBroken, InWeek, Roster, set_of}
use Rattle.rota_judge.proofs.Common.Imports.{soft_rules, Problem, Rule, Cell, cell_number, first_slack, unit_number, Item, numbered, positive_part}
use Rattle.rota_judge.proofs.Common.Imports.{Satisfies, SatisfiesModel, LinearRow, item_rows, model_cost, rule_cost, soft_items, extension_of, model_of}
use Rattle.rota_judge.proofs.Common.Imports.{numbered_items, rows_of, first_unmet, later, truth_of, H1, is_soft, Verdict, Subject, SettlesModel}
use Rattle.rota_judge.proofs.Common.Imports.{assigned, assignment_in, extended, roster_in, CostsTheRules, ExtendsToModel, IsMet, Judges, JudgesTheRules}
use Rattle.rota_core.specs.Rules.{is_rule}
use Rattle.rota_judge.proofs.Extension.{extension-objective, extension-satisfies, extension-unit, satisfying-keeps, satisfying-objective, extension-roster}
use Rattle.rota_judge.proofs.FirstUnmet.{Decided, Named, first_unmet-decides, hard-first_broken}
use Rattle.rota_items.proofs.ItemLemmas.{SoftItem, charged_on, soft_items-soft, sound-rule}
use Rattle.rota_items.specs.ModelCosts.{IsChargedOn}

abbrev IsSoftRule : Rule → Type 0
IsSoftRule rule = is_soft rule ≡ true

abbrev NamesSoft : Named → Type 0
NamesSoft named = IfSome named (λ row. IsSoftRule row.1)

-- a rule that is broken is not soft, and the roster does not keep the hard rules
broken-fails : (problem : Problem) (roster : Roster) (rule : Rule) → FirstBroken problem roster rule →
    (IsSoftRule rule → ⊥) × (KeepsHardRules problem roster → ⊥)
broken-fails problem roster H1 broken = (λ soft. grind arith, λ keeps. broken keeps.of_competition.one_cell)
broken-fails problem roster _ broken = (λ soft. grind arith, λ keeps. search rules)

-- ---- costs

module _ (problem : Problem) (assignment : ℕ → Bool) (roster : Roster) (verdict : Verdict)
    (judges : Judges problem assignment roster verdict) where
  charges : verdict.costs ≡ map positive_part (map (model_cost problem roster) soft_rules)
  charges = sym (map-map positive_part pos verdict.costs ∙ map-id verdict.costs) ∙ ap (map positive_part) judges.costs

  costs-rules : KeepsCompetitionRules problem roster → CostsTheRules problem roster verdict
  costs-rules keeps =
      let costs_are : verdict.costs ≡ map (rule_cost problem roster) soft_rules =
      charges ∙ (λ i. map positive_part (map (λ rule. (sound-rule problem rule).charges roster (charged_on problem roster keeps rule) i) soft_rules)) in
      record { costs = costs_are; sum_is = ap sum costs_are ∙ omega arith }

  charged-rules : (rules : List Rule) → AllByRecursion (IsChargedOn problem roster) rules →
      map positive_part (map (model_cost problem roster) rules) ≡ map (rule_cost problem roster) rules
  charged-rules [] all = refl
  charged-rules (rule ∷ rules) all = λ i. positive_part ((sound-rule problem rule).charges roster all.0 i) ∷ charged-rules rules all.1 i

  -- all rules but S1 ask for one cell a day
  later-charged : KeepsOneCell problem roster → (rules : List Rule) → list_all (λ rule. not (is_rule Rule.S1 rule)) rules ≡ true →
      AllByRecursion (IsChargedOn problem roster) rules
  later-charged one [] others = tt
  later-charged one (rule ∷ rules) others =
      let both = and_parts (not (is_rule Rule.S1 rule)) (list_all (λ rule. not (is_rule Rule.S1 rule)) rules) others in
      (on-rule rule both.0, later-charged one rules both.1)
    where
      on-rule : (rule : Rule) → not (is_rule Rule.S1 rule) ≡ true → IsChargedOn problem roster rule
      on-rule Rule.S1 other = absurd (true≢false (sym other))
      on-rule Rule.S4 other = tt
      on-rule _ other = one

  -- ---- the rule of the named row

  abbrev soft_rows : List (LinearRow ℕ)
  soft_rows = item_rows (first_slack problem) (numbered_items problem)

  soft-named : NamesSoft (first_unmet assignment soft_rows)
  soft-named = each (first_slack problem) (soft_items problem) (soft_items-soft problem)
    where
      next : (rule : Rule) (met : Bool) (rest : Named) → IsSoftRule rule → NamesSoft rest → NamesSoft (if met then later 1 rest else Some (1, rule))
      next rule true None soft named = tt
      next rule true (Some row) soft named = named
      next rule false rest soft named = soft

      each : (first : ℕ) (items : List (Item Cell)) → AllByRecursion SoftItem items →
          NamesSoft (first_unmet assignment (item_rows first (map (numbered (cell_number problem)) items)))
      each first [] all = tt
      each first (item ∷ items) all = next item.rule _ _ all.0 (each (first + item.slacks) items all.1)

  -- the meaning of the named row for the rules
  abbrev RuleOutcome : Named → Type 0
  RuleOutcome named =
      (NamesSoft named ↔ ((assignment (unit_number problem) ≡ true) × KeepsHardRules problem roster)) ×
      (assignment (unit_number problem) ≡ true → KeepsHardRules problem roster ⊎ IsSomeAnd named (λ row. FirstBroken problem roster row.1))

  module _ (agrees : (c : Cell) → InWeek problem c → assignment (cell_number problem c) ≡ roster c) where
    rule-outcome : RuleOutcome (first_unmet assignment (rows_of problem))
    rule-outcome =
        elim (cases_Bool (assignment (unit_number problem))) [
          | inl unit ↦
              hard-first_broken problem roster assignment agrees soft_rows RuleOutcome next
              (λ rule broken.
              let fails = broken-fails problem roster rule broken in ((λ soft. absurd (fails.0 soft), λ both. absurd (fails.1 both.1)), λ _. inr broken))
              unit (λ keeps. ((λ _. (unit, keeps), λ _. soft-named), λ _. inl keeps))
          | inr none ↦ rw none ((λ soft. (cc), λ both. (cc)), λ unit. (cc))
        ]
      where
        next : (named : Named) → RuleOutcome named → RuleOutcome (later 1 named)
        next None outcome = outcome
        next (Some row) outcome = outcome

    pub rules-judged : JudgesTheRules problem assignment roster verdict
    rules-judged =
        let outcome = rw (← judges.unmet) at rule-outcome in record {
          hard = outcome.0;
          first_broken = outcome.1;
          costs = costs-rules;
          later_costs = λ one. ap (drop 1) charges ∙ charged-rules (drop 1 soft_rules) (later-charged one (drop 1 soft_rules) refl);
        }

  settled : Decided assignment (rows_of problem) verdict.unmet
  settled = rw judges.unmet (first_unmet-decides assignment (rows_of problem))

-- ---- whether the model is satisfied

pub settles_model : (problem : Problem) (subject : Subject) (verdict : Verdict) →
    Judges problem (assignment_in problem subject) (roster_in problem subject) verdict → SettlesModel problem subject verdict
settles_model problem (assigned bits) verdict judges = met verdict.unmet (settled problem (truth_of bits) _ verdict judges)
  where
    met : (unmet : Named) → Decided (truth_of bits) (rows_of problem) unmet →
        MatchOption unmet (IsMet problem (truth_of bits) verdict) (λ _. SatisfiesModel (truth_of bits) (model_of problem) → ⊥)
    met None all =
        let satisfies = All-from_recursion (Satisfies (truth_of bits)) (model_of problem).constraints all in
        let keeps = satisfying-keeps problem (truth_of bits) satisfies in record {
          satisfies = satisfies;
          keeps = keeps;
          costs_rules = costs-rules problem _ _ verdict judges keeps.of_competition;
          penalty_at_most = omega (arith, ints, satisfying-objective problem (truth_of bits) satisfies, judges.objective);
        }
    met (Some row) fails = λ all. fails (recursion_from_All (Satisfies (truth_of bits)) (model_of problem).constraints all)
settles_model problem (extended tables) verdict judges =
    extends verdict.unmet (settled problem ext roster verdict judges)
    ((rules-judged problem ext roster verdict judges (extension-roster problem roster)).first_broken (extension-unit problem roster))
  where
    roster : Roster
    roster = set_of tables

    ext : ℕ → Bool
    ext = extension_of problem roster

    extends : (unmet : Named) → Decided ext (rows_of problem) unmet →
        KeepsHardRules problem roster ⊎ IsSomeAnd unmet (λ row. FirstBroken problem roster row.1) →
        MatchOption unmet (ExtendsToModel problem roster verdict) (λ row. FirstBroken problem roster row.1)
    extends None all (inl keeps) = record {
      keeps = keeps;
      satisfies = extension-satisfies problem roster keeps;
      costs_rules = costs-rules problem ext roster verdict judges keeps.of_competition;
      objective = omega (arith, ints, judges.objective, extension-objective problem roster keeps);
    }
    extends None all (inr broken) = absurd broken
    extends (Some row) fails (inl keeps) =
        absurd (fails (recursion_from_All (Satisfies ext) (model_of problem).constraints (extension-satisfies problem roster keeps)))
    extends (Some row) fails (inr broken) = broken
