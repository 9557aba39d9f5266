-- The items of a property's runs charge the cost of the runs.
use Rattle.rota_items.proofs.Common.Imports.{◌≡◌, ℕ, ◌*◌, ◌<◌, ◌≤◌, Bool, List, [], ◌∷◌, refl, ap, arith, count_by, sum_below, AllByRecursion, sum_by-cons}
use Rattle.rota_items.proofs.Common.Imports.{sum_by-append, Item, weighted_shortages, Span, Runs, variables_on, run_items, pattern_items, Pattern, windows_on}
use Rattle.rota_items.proofs.Common.Imports.{patterns_on, has_property, day_items, AtMostOneADay, DaysFollow, day_cost, run_over, run_under, run_cost}
use Rattle.rota_items.proofs.DayLaw.{units_of, units, units-windows_on, units-patterns_on}
use Rattle.rota_items.proofs.EachPattern.{IsRunPattern, each-on, each-pattern, on-pattern}
use Rattle.rota_items.proofs.LogicWords.{sum_by-each-is}
use Rattle.rota_items.proofs.PatternItems.{AtMostOneOn, weighted-pattern_item}

module _ {X : Type 0} (runs : Runs X) (assignment : X → Bool) (one : AtMostOneADay runs.property assignment) where
  abbrev has : ℕ → Bool
  has = has_property runs.property assignment

  abbrev history : ℕ
  history = runs.history

  abbrev limits : Span
  limits = runs.limits

  at_most_one : (pattern : Pattern) → DaysFollow pattern → AtMostOneOn runs.property assignment pattern.days
  at_most_one = on-pattern (λ d. count_by assignment (variables_on runs.property d) ≤ 1) one

  weighted_shortages-pattern_items : (all : List Pattern) → AllByRecursion (IsRunPattern limits) all →
      weighted_shortages assignment (pattern_items runs all) ≡ runs.weight * units has all
  weighted_shortages-pattern_items [] are = omega arith
  weighted_shortages-pattern_items (p ∷ ps) are =
      let here = weighted-pattern_item runs.rule runs.weight runs.property assignment p (at_most_one p are.0.follows) in
      let sum = ap (λ n. runs.weight * n) (sum_by-cons (units_of has) p ps) in
      omega (arith, sum_by-cons {X = Item X}, weighted_shortages-pattern_items ps are.1)

  pub weighted_shortages-run_items : weighted_shortages assignment (run_items runs) ≡ runs.weight * run_cost has history limits
  unfolding run_over run_under sum_below
  weighted_shortages-run_items =
      let over = sum_by-each-is (units_of has) 7 (windows_on history limits) _ (λ d _. units-windows_on has history d limits) in
      let under = sum_by-each-is (units_of has) 7 (patterns_on history limits) _ (λ d _. units-patterns_on has history d limits) in
      rw (weighted_shortages-pattern_items _ (each-pattern history limits), sum_by-append, over, under) refl

  pub weighted_shortages-day_items : (d : ℕ) → d < 7 →
      weighted_shortages assignment (day_items runs d) ≡ runs.weight * day_cost has history limits d
  weighted_shortages-day_items d d_in =
      let charged = weighted_shortages-pattern_items _ (each-on history limits d d_in) in
      rw (charged, sum_by-append, units-windows_on has history d limits, units-patterns_on has history d limits) refl
