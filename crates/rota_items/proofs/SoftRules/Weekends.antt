-- The items of a nurse's weekend charge work on only one of its days, and worked weekends above the maximum.
use Rattle.rota_items.proofs.Common.Imports.{◌≡◌, ℕ, ◌+◌, ◌*◌, ◌<◌, ◌≤◌, Bool, true, false, cond, List, [], refl, ap, ◌∙◌, arith}
use Rattle.rota_items.proofs.Common.Imports.{if◌then◌else◌, ◌&&◌, nat_le, AllByRecursion, KeepsOneCell, works, Roster, Problem, Rule, Cell}
use Rattle.rota_items.proofs.Common.Imports.{work_cells, Item, weighted_shortages, Present, pattern_item, Pattern, saturday, max_unit_weight}
use Rattle.rota_items.proofs.Common.Imports.{IsWithinLimits, max_run_items, only_sunday, weekend_items, DaysFollow, max_totals_count}
use Rattle.rota_rules.specs.CompleteWeekends.{complete_weekend_cost_of, complete_weekend_weight}
use Rattle.rota_rules.specs.WorkedWeekends.{worked_weekend_cost_of, worked_weekend_weight}
use Rattle.rota_items.specs.rules.CompleteWeekends.{complete_weekends_of}
use Rattle.rota_items.specs.rules.WorkedWeekends.{weekend_constant_of, worked_weekends_of}
use Rattle.rota_items.proofs.CellCounts.{any-works}
use Rattle.rota_items.proofs.DayLaw.{units_of}
use Rattle.rota_items.proofs.SoftRules.NurseProperties.{of_nurse-work, sound-pattern, weighted-pattern}
use Rattle.rota_items.proofs.LogicWords.{AreFew}
use Rattle.rota_items.proofs.SoftRules.Sizes.{IsItemSmall, length-work, small-pattern}
use Rattle.rota_items.proofs.SoftRules.Sound.{IsItemSound, IsNurseRuleSound, weighted}

saturday-follows : (alone : Bool) → DaysFollow (saturday alone)
saturday-follows true = record { first = 5; days_are = refl; in_week = omega arith }
saturday-follows false = record { first = 5; days_are = refl; in_week = omega arith }

sunday-follows : DaysFollow only_sunday
sunday-follows = record { first = 5; days_are = refl; in_week = omega arith }

module _ (problem : Problem) (rule : Rule) (weight n : ℕ) (alone : Bool) (n_in : n < problem.nurses) where
  abbrev item : Pattern → Item Cell
  item = pattern_item rule weight (Present (work_cells problem n))

  -- the items of a weekend, if a test holds
  abbrev items_where : Bool → List (Item Cell)
  items_where test = if test then weekend_items rule weight problem n alone else []

  sound-items_where : 1 ≤ weight → (test : Bool) → AllByRecursion (IsItemSound problem rule) (items_where test)
  sound-items_where weighs false = tt
  sound-items_where weighs true =
      let sound = sound-pattern problem rule weight n (Present (work_cells problem n)) (of_nurse-work problem n n_in) in
      (sound (saturday alone) (saturday-follows alone) weighs (omega arith), (sound only_sunday sunday-follows weighs (omega arith), tt))

  module _ (roster : Roster) (one : KeepsOneCell problem roster) where
    weighted-item : (pattern : Pattern) → DaysFollow pattern → weighted roster (item pattern) ≡ weight * units_of (works problem roster n) pattern
    weighted-item pattern follows =
        weighted-pattern problem rule weight n (Present (work_cells problem n)) (of_nurse-work problem n n_in) pattern follows roster one ∙
        ap (λ has. weight * units_of has pattern) (any-works problem roster n)

    weighted-items_where : (test : Bool) →
        weighted_shortages roster (items_where test) ≡
        cond test (weight * units_of (works problem roster n) (saturday alone) + weight * units_of (works problem roster n) only_sunday) 0
    weighted-items_where false = refl
    weighted-items_where true =
        omega (arith, weighted-item (saturday alone) (saturday-follows alone), weighted-item only_sunday sunday-follows)

module _ (problem : Problem) (limits : IsWithinLimits problem) where
  small-weekend : (rule : Rule) (weight n : ℕ) (alone test : Bool) → weight ≤ max_unit_weight →
      AreFew (IsItemSmall 7) max_run_items (if test then weekend_items rule weight problem n alone else [])
  small-weekend rule weight n alone false light = record { each = tt; few = omega arith }
  small-weekend rule weight n alone true light =
      let small = λ (pattern : Pattern). small-pattern (Present (work_cells problem n)) (λ d. omega (arith, length-work problem limits n d)) rule weight pattern light in
      record { each = (small (saturday alone) (omega arith) (grind arith), (small only_sunday (omega arith) (omega arith), tt)); few = omega arith }

module _ (problem : Problem) where
  pub sound-complete_weekends : IsNurseRuleSound problem Rule.S5 (complete_weekend_cost_of problem) complete_weekends_of (λ _ _. 0)
  sound-complete_weekends = record {
    items = λ n n_in. sound-items_where problem Rule.S5 complete_weekend_weight n true n_in (omega arith) (problem.contract n).complete;
    charges = λ roster one n n_in.
        grind (arith, weighted-items_where problem Rule.S5 complete_weekend_weight n true n_in roster one (problem.contract n).complete);
    small = λ limits n. small-weekend problem limits Rule.S5 complete_weekend_weight n true _ (omega arith);
    constant_small = λ limits n. omega arith;
  }

  abbrev is_charged : ℕ → Bool
  is_charged n = max_totals_count problem && nat_le (problem.contract n).weekends (problem.past n).weekends

  pub sound-worked_weekends : IsNurseRuleSound problem Rule.S7 (worked_weekend_cost_of problem) worked_weekends_of weekend_constant_of
  sound-worked_weekends = record {
    items = λ n n_in. sound-items_where problem Rule.S7 worked_weekend_weight n false n_in (omega arith) (is_charged n);
    charges = λ roster one n n_in.
        grind (arith, weighted-items_where problem Rule.S7 worked_weekend_weight n false n_in roster one (is_charged n));
    small = λ limits n. small-weekend problem limits Rule.S7 worked_weekend_weight n false _ (omega arith);
    constant_small = λ limits n. grind (arith, limits.weekends n);
  }
