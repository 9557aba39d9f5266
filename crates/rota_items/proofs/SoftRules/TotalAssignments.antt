-- The items of the totals and their constant charge the assignments outside the limits.
use Rattle.rota_items.proofs.Common.Imports.{◌≡◌, ℕ, ◌+◌, ◌-◌, ◌*◌, ◌<◌, ◌≤◌, Bool, ◌&&◌, true, false, cond, refl, arith, ints, min, ℤ, pos}
use Rattle.rota_items.proofs.Common.Imports.{negsuc, nat_lt, count_by, sum_by-append, AllByRecursion-append, AllByRecursion-singleton_if, inl}
use Rattle.rota_items.proofs.Common.Imports.{inr, KeepsOneCell, Roster, Rule, Problem, nurse_cells, work_cells, shortage, times, IsUnit, rules}
use Rattle.rota_items.proofs.Common.Imports.{charged_excess, excess_before_counts, max_totals_count, AllByRecursion-concat_below, InWeek}
use Rattle.rota_rules.specs.TotalAssignments.{assignment_cost_of, assignment_weight, assignments_of}
use Rattle.rota_items.specs.rules.TotalAssignments.{assignment_constant_of, max_total_item, max_totals_of, min_total_item}
use Rattle.rota_items.specs.rules.TotalAssignments.{min_totals_of, still_allowed, still_wanted, totals_of}
use Rattle.rota_items.proofs.CellCounts.{work_count, one-work, count-work_cells}
use Rattle.rota_items.proofs.SoundTerms.{sound-cells, AreSound, in-work_cells}
use Rattle.rota_items.proofs.LogicWords.{few-append, few-singleton_if, sum_by-singleton_if, sum_by-each-is}
use Rattle.rota_rules.proofs.LogicWords.{sum_below-within}
use Rattle.rota_items.proofs.RisingCells.{rises-nurse_cells}
use Rattle.rota_items.proofs.SoftRules.Sizes.{length-total}
use Rattle.rota_items.proofs.SoftRules.Sound.{IsItemSound, IsNurseRuleSound}
use Rattle.rota_items.proofs.PatternItems.{value_of-sum, positive_part-parts}

-- the charges of item and constant for the assignments below the minimum total, and for the assignments above the maximum
min_charged : (count : Bool) (minimum before now lacks : ℕ) → now ≤ 7 → lacks ≡ min (minimum - before) 7 - now →
    cond (count && nat_lt 0 (minimum - before)) (assignment_weight * lacks) 0 + assignment_weight * cond count (minimum - before - 7) 0 ≡
    assignment_weight * cond count (minimum - (before + now)) 0
min_charged count minimum before now lacks small is = grind arith

max_charged : (problem : Problem) (maximum before now exceeds : ℕ) → now ≤ 7 → exceeds ≡ now - (maximum - before) →
    cond (max_totals_count problem && nat_lt (maximum - before) 7) (assignment_weight * exceeds) 0 +
    assignment_weight * cond (excess_before_counts problem) (before - maximum) 0 ≡
    assignment_weight * charged_excess problem maximum before now
max_charged problem maximum before now exceeds small is = grind arith

module _ (problem : Problem) where
  -- ---- the shortages of the items

  module _ (roster : Roster) (n : ℕ) where
    count-nurse_cells : count_by roster (nurse_cells problem n) ≡ assignments_of problem roster n
    count-nurse_cells =
        sum_by-each-is (λ c. cond (roster c) 1 0) 7 (λ d. work_cells problem n d) (work_count problem roster n)
        (λ d _. count-work_cells problem roster n d)

    shortage-minimum : shortage roster (min_total_item problem n) ≡ min (still_wanted problem n) 7 - assignments_of problem roster n
    shortage-minimum = omega (arith, ints, positive_part-parts, value_of-sum roster false (nurse_cells problem n), count-nurse_cells)

    shortage-maximum : shortage roster (max_total_item problem n) ≡ assignments_of problem roster n - still_allowed problem n
    shortage-maximum = omega (arith, ints, positive_part-parts, value_of-sum roster true (nurse_cells problem n), count-nurse_cells)

    assignments-le : KeepsOneCell problem roster → n < problem.nurses → assignments_of problem roster n ≤ 7
    assignments-le one n_in =
        omega (
          arith,
          sum_below-within 7 1 (work_count problem roster n) (λ d d_in.
              omega (arith, count-work_cells problem roster n d, one-work problem roster one n d n_in d_in)),
        )

  -- ---- the items

  module _ (n : ℕ) (n_in : n < problem.nurses) where
    sound-sum : (coefficient : ℤ) → IsUnit coefficient → AreSound problem (times coefficient (nurse_cells problem n))
    sound-sum coefficient unit =
        sound-cells problem coefficient unit _ _ (nurse_cells problem n)
        (AllByRecursion-concat_below (InWeek problem) 7 (work_cells problem n) (λ d d_in. in-work_cells problem n d n_in d_in))
        (rises-nurse_cells problem n)

    sound-minimum : (problem.is_last && nat_lt 0 (still_wanted problem n)) ≡ true →
        IsItemSound problem Rule.S6 (min_total_item problem n)
    sound-minimum wanted = record {
      rule_is = refl;
      terms = sound-sum (pos 1) (inl refl);
      weighs = omega arith;
      has_slack = grind arith;
      enough = λ roster _. omega (arith, shortage-minimum roster n);
    }

    sound-maximum : (max_totals_count problem && nat_lt (still_allowed problem n) 7) ≡ true →
        IsItemSound problem Rule.S6 (max_total_item problem n)
    sound-maximum limited = record {
      rule_is = refl;
      terms = sound-sum (negsuc 0) (inr refl);
      weighs = omega arith;
      has_slack = grind arith;
      enough = λ roster keeps. omega (arith, shortage-maximum roster n, assignments-le roster n keeps.one_cell n_in);
    }

  pub sound-total_assignments : IsNurseRuleSound problem Rule.S6 (assignment_cost_of problem) totals_of assignment_constant_of
  sound-total_assignments = record {
    items = λ n n_in.
        AllByRecursion-append (IsItemSound problem Rule.S6) (min_totals_of problem n) (max_totals_of problem n)
        (AllByRecursion-singleton_if (IsItemSound problem Rule.S6) _ (min_total_item problem n) (sound-minimum n n_in))
        (AllByRecursion-singleton_if (IsItemSound problem Rule.S6) _ (max_total_item problem n) (sound-maximum n n_in));
    charges = λ roster one n n_in.
        let few = assignments-le roster n one n_in in
        let below = min_charged problem.is_last (problem.contract n).total.min (problem.past n).assignments _ _ few
        (shortage-minimum roster n) in
        let above = max_charged problem (problem.contract n).total.max (problem.past n).assignments _ _ few (shortage-maximum roster n) in
        simp (sum_by-append, sum_by-singleton_if) (omega arith);
    small = λ limits n.
        few-append (omega arith)
        (few-singleton_if _ (min_total_item problem n) (λ _. let few = length-total problem limits (pos 1) n in search rules))
        (few-singleton_if _ (max_total_item problem n) (λ _. let few = length-total problem limits (negsuc 0) n in search rules));
    constant_small = λ limits n. grind (arith, limits.totals n, limits.assignments n);
  }
