-- Rosters with the same cells in a week keep the same hard rules.
use Rattle.rota_judge.proofs.Common.Imports.{subst, ◌≤ℤ◌, InWeek, rule_rows, KeepsHardRules, Roster, Problem}
use Rattle.rota_rules.specs.AlikeRosters.{AreAlike}
use Rattle.rota_judge.proofs.HardRules.EachRule.{each-row, rule_rows-hold, rule_rows-mean}
use Rattle.rota_judge.proofs.HardRules.Sound.{Holds}
use Rattle.rota_items.proofs.LogicWords.{all-both}
use Rattle.rota_items.proofs.ItemLemmas.{OnTerms, value_of-agree}

module _ (problem : Problem) (one other : Roster) (same : AreAlike problem one other) where
  -- the rows of the hard rules are over cells of the week, and mean the rules
  pub keeps-alike : KeepsHardRules problem one → KeepsHardRules problem other
  keeps-alike keeps =
      rule_rows-mean problem other
      (all-both (Holds one) (λ row. OnTerms (InWeek problem) row.terms) (Holds other) (λ row holds inside.
      subst (λ value. row.degree ≤ℤ value) (value_of-agree one other (InWeek problem) row.terms same inside) holds) (rule_rows problem)
      (rule_rows-hold problem one keeps) (each-row problem (λ row. OnTerms (InWeek problem) row.terms) (λ rule row sound. sound.terms.in_week)))
