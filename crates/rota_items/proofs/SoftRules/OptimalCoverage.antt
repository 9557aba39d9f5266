-- The items of the optimal numbers charge the missing nurses.
use Rattle.rota_items.proofs.Common.Imports.{Rule, ◌≡◌, ℕ, ◌-◌, false, refl, arith, ints, AllByRecursion-concat_below, AllByRecursion-singleton_if}
use Rattle.rota_items.proofs.Common.Imports.{nurses_at, KeepsMinimum, Roster, cell, Problem, demand_cells, shortage, weighted_shortages, rules}
use Rattle.rota_items.proofs.Common.Imports.{max_shifts, max_skills, optimum_cost, optimum_weight, optimum_item, optimum_items, optimum_items_at}
use Rattle.rota_items.proofs.ItemLists.{none_of_nurses}
use Rattle.rota_items.specs.RuleItems.{no_charge}
use Rattle.rota_items.proofs.LogicWords.{few-concat_below, few-singleton_if, sum_by-singleton_if, sum_by-each-times, count_by-each}
use Rattle.rota_rules.proofs.LogicWords.{sum_below-zero}
use Rattle.rota_items.proofs.SoftRules.Sizes.{length-demand}
use Rattle.rota_items.proofs.SoftRules.Sound.{IsItemSound, IsRuleSound, weighted}
use Rattle.rota_items.proofs.SoundTerms.{sound-demand}
use Rattle.rota_items.proofs.PatternItems.{value_of-sum, positive_part-parts}

module _ (problem : Problem) where
  -- ---- the cost

  shortage-optimum_item : (roster : Roster) (d s k : ℕ) →
      shortage roster (optimum_item problem d s k) ≡ (problem.demand d s k).optimal - nurses_at problem roster d s k
  shortage-optimum_item roster d s k =
      let count = count_by-each roster problem.nurses (λ n. cell n d s k) in
      omega (arith, ints, positive_part-parts, value_of-sum roster false (demand_cells problem d s k))

  pub weighted-optimum_items : (roster : Roster) → KeepsMinimum problem roster →
      weighted_shortages roster (optimum_items problem) ≡ optimum_cost problem roster
  weighted-optimum_items roster met =
      sum_by-each-times (weighted roster) 7 optimum_weight _ _ (λ d d_in.
      sum_by-each-times (weighted roster) problem.shifts optimum_weight _ _ (λ s s_in.
      sum_by-each-times (weighted roster) problem.skills optimum_weight _ _ (λ k k_in.
      rw sum_by-singleton_if (grind (arith, met d s k d_in s_in k_in, shortage-optimum_item roster d s k)))))

  -- ---- the items

  pub sound-optimal_coverage : IsRuleSound problem Rule.S1 (optimum_cost problem) (record no_charge { day_items = optimum_items })
  sound-optimal_coverage = record {
    items =
        rw (none_of_nurses problem (optimum_items problem))
        (AllByRecursion-concat_below (IsItemSound problem Rule.S1) 7 _ (λ d d_in.
        AllByRecursion-concat_below (IsItemSound problem Rule.S1) problem.shifts _ (λ s s_in.
        AllByRecursion-concat_below (IsItemSound problem Rule.S1) problem.skills (optimum_items_at problem d s) (λ k k_in.
        AllByRecursion-singleton_if (IsItemSound problem Rule.S1) _ (optimum_item problem d s k) (λ wanted. record {
          rule_is = refl;
          terms = sound-demand problem d s k d_in s_in k_in;
          weighs = omega arith;
          has_slack = grind arith;
          enough = λ roster keeps. omega (arith, shortage-optimum_item roster d s k, keeps.minimum d s k d_in s_in k_in);
        })))));
    charges = λ roster keeps.
        rw (none_of_nurses problem (optimum_items problem))
        (omega (arith, ints, weighted-optimum_items roster keeps, sum_below-zero problem.nurses (λ _. 0) (λ _ _. refl)));
    small = λ limits.
        rw (none_of_nurses problem (optimum_items problem))
        (few-concat_below 7 (omega arith) _ (λ d _. few-concat_below max_shifts limits.shifts _ (λ s _.
        few-concat_below max_skills limits.skills (optimum_items_at problem d s) (λ k _.
        few-singleton_if _ (optimum_item problem d s k) (λ _.
        let small = limits.optimal d s k in let few = length-demand problem limits d s k in search rules)))));
    constant_small = λ limits n. omega arith;
  }
