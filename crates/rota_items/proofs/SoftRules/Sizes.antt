-- The size of items and of sums of cells in a week within the limits.
use Rattle.rota_items.proofs.Common.Imports.{ℕ, ◌*◌, ◌≤◌, List, [], ◌∷◌, length, arith, ints, mul-le, Problem, ℤ, pos, flat_map}
use Rattle.rota_items.proofs.Common.Imports.{Rule, Cell, Item, positive_part, Property, Runs}
use Rattle.rota_items.proofs.Common.Imports.{Pattern, pattern_item, run_items, work_cells, IsWithinLimits, max_unit_weight, max_run_items}
use Rattle.rota_items.proofs.Common.Imports.{max_weight, max_number, max_nurses, max_shifts, max_skills, length-append, length-map, day_terms}
use Rattle.rota_items.proofs.Common.Imports.{variables_on, PatternDay, Term, times, nurse_cells, on_cells, demand_cells, max_terms}
use Rattle.rota_items.proofs.Common.Imports.{max_cells_of_day}
use Rattle.rota_items.proofs.EachPattern.{each-run_item, run_counting}
use Rattle.rota_items.proofs.LogicWords.{AreFew, length-at_most}
use Rattle.rota_items.proofs.PatternItems.{positive_part-parts}

-- an item with few slacks and terms, and with a small total weight of its slacks and of its degree
pub record IsItemSmall (maximum : ℕ) (item : Item Cell) : Type 0 where
  pub slacks : item.slacks ≤ maximum
  pub all_slacks : item.weight * item.slacks ≤ max_weight
  pub terms : length item.terms ≤ max_terms
  pub degree : item.weight * positive_part item.degree ≤ max_weight

-- ---- patterns

module _ (property : Property Cell) (few : (d : ℕ) → length (variables_on property d) ≤ max_cells_of_day) where
  length-days : (days : List PatternDay) → length (flat_map (day_terms property) days) ≤ length days * max_cells_of_day
  length-days [] = omega arith
  length-days (day ∷ days) = simp (length-append, length-map) (omega (arith, few day.day, length-days days))

  pub small-pattern : (rule : Rule) (weight : ℕ) (pattern : Pattern) → weight ≤ max_unit_weight → pattern.units ≤ max_number → length pattern.days ≤ 7 →
      IsItemSmall 7 (pattern_item rule weight property pattern)
  small-pattern rule weight pattern light small short =
      let item : Item Cell = pattern_item rule weight property pattern in
      let maximum : item.weight ≤ max_weight = mul-le weight pattern.units max_unit_weight max_number light small in record {
        slacks = omega arith;
        all_slacks = omega (arith, maximum);
        terms = omega (arith, length-days pattern.days);
        degree = omega (arith, mul-le item.weight (positive_part item.degree) max_weight 1 maximum (omega (arith, ints, positive_part-parts item.degree)));
      }

pub small-runs : (runs : Runs Cell) → ((d : ℕ) → length (variables_on runs.property d) ≤ max_cells_of_day) → runs.weight ≤ max_unit_weight →
    runs.limits.min ≤ max_number → AreFew (IsItemSmall 7) max_run_items (run_items runs)
small-runs runs few light small = record {
  each =
      each-run_item runs (IsItemSmall 7) (λ pattern is.
      small-pattern runs.property few runs.rule runs.weight pattern light (omega (arith, is.few, small)) (omega (arith, is.follows.in_week)));
  few = grind (arith, run_counting);
}

-- ---- sums of cells

module _ (problem : Problem) (limits : IsWithinLimits problem) where
  pub length-on : (n s d : ℕ) → length (on_cells problem n s d) ≤ max_skills * 1
  length-on n s d = length-at_most {m = 1} max_skills limits.skills _ (λ k. omega arith)

  pub length-work : (n d : ℕ) → length (work_cells problem n d) ≤ max_shifts * (max_skills * 1)
  length-work n d = length-at_most max_shifts limits.shifts _ (λ s. length-on n s d)

  pub length-total : (c : ℤ) (n : ℕ) → length (times c (nurse_cells problem n)) ≤ max_terms
  length-total c n =
      let few : length (nurse_cells problem n) ≤ 7 * (max_shifts * (max_skills * 1)) = length-at_most 7 (omega arith) _ (length-work n) in
      omega (arith, length-map {B = Term Cell} (nurse_cells problem n) (λ cell. (c, cell)))

  pub length-demand : (d s k : ℕ) → length (times (pos 1) (demand_cells problem d s k)) ≤ max_terms
  length-demand d s k =
      let few : length (demand_cells problem d s k) ≤ max_nurses * 1 = length-at_most {m = 1} max_nurses limits.nurses _ (λ n. omega arith) in
      omega (arith, length-map {B = Term Cell} (demand_cells problem d s k) (λ cell. (pos 1, cell)))
