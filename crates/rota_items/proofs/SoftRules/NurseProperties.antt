-- The items of patterns of a nurse's days are sound.
use Rattle.rota_items.proofs.Common.Imports.{◌≡◌, ℕ, ◌+◌, ◌*◌, ◌<◌, ◌≤◌, List, refl, arith, count_by, AllByRecursion, mul-le, KeepsOneCell}
use Rattle.rota_items.proofs.Common.Imports.{Roster, InWeek, Problem, Rule, Cell, Item, cell_number, on_cells, work_cells, AtMostOneADay}
use Rattle.rota_items.proofs.Common.Imports.{DaysFollow, has_property, Property, Present, Runs, pattern_item, run_items, variables_on, Pattern}
use Rattle.rota_core.specs.RisingLists.{RisesWithin}
use Rattle.rota_items.proofs.CellCounts.{one-on, one-work}
use Rattle.rota_items.proofs.SoundTerms.{in-on_cells, in-work_cells, OnVariables, on-days, rises-inside, units-days}
use Rattle.rota_items.proofs.DayLaw.{units_of}
use Rattle.rota_items.proofs.EachPattern.{on-pattern, each-run_item}
use Rattle.rota_items.proofs.PatternItems.{shortage-pattern_item, AtMostOneOn, weighted-pattern_item}
use Rattle.rota_items.proofs.RisingCells.{day_start, on-keeps, rises-days, rises-work_cells}
use Rattle.rota_items.proofs.SoftRules.Sound.{IsItemSound, weighted}

-- the cells are the cells of a nurse's days, and at most one of a day is in a roster
pub record IsOfNurse (problem : Problem) (n : ℕ) (cells : ℕ → List Cell) : Type 0 where
  pub nurse_in : n < problem.nurses
  pub cells_in : (d : ℕ) → d < 7 → AllByRecursion (InWeek problem) (cells d)
  pub cells_rise : (d : ℕ) → RisesWithin (cell_number problem) (day_start problem n d) (day_start problem n (d + 1)) (cells d)
  pub one : (roster : Roster) → KeepsOneCell problem roster → AtMostOneADay (Present cells) roster

module _ (problem : Problem) (n : ℕ) (n_in : n < problem.nurses) where
  pub of_nurse-on : (s : ℕ) → s < problem.shifts → IsOfNurse problem n (on_cells problem n s)
  of_nurse-on s s_in = record {
    nurse_in = n_in;
    cells_in = λ d d_in. in-on_cells problem n s d n_in s_in d_in;
    cells_rise = λ d. on-keeps problem n s d s_in;
    one = λ roster one d d_in. one-on problem roster one n d n_in d_in s s_in;
  }

  pub one-at_work : (roster : Roster) → KeepsOneCell problem roster → AtMostOneADay (Present (work_cells problem n)) roster
  one-at_work roster one d d_in = one-work problem roster one n d n_in d_in

  pub of_nurse-work : IsOfNurse problem n (work_cells problem n)
  of_nurse-work = record {
    nurse_in = n_in;
    cells_in = λ d d_in. in-work_cells problem n d n_in d_in;
    cells_rise = λ d. rises-work_cells problem n d;
    one = one-at_work;
  }

module _ (problem : Problem) (rule : Rule) (weight n : ℕ) (property : Property Cell) (is : IsOfNurse problem n (variables_on property))
    (pattern : Pattern) (follows : DaysFollow pattern) where
  abbrev item : Item Cell
  item = pattern_item rule weight property pattern

  at_most_one : (roster : Roster) → KeepsOneCell problem roster → AtMostOneOn property roster pattern.days
  at_most_one roster one = on-pattern (λ d. count_by roster (variables_on property d) ≤ 1) (is.one roster one) pattern follows

  pub weighted-pattern : (roster : Roster) → KeepsOneCell problem roster →
      weighted roster item ≡ weight * units_of (has_property property roster) pattern
  weighted-pattern roster one = weighted-pattern_item rule weight property roster pattern (at_most_one roster one)

  pub sound-pattern : 1 ≤ weight → 1 ≤ pattern.units → IsItemSound problem rule item
  sound-pattern weighs some =
      let inside = on-days (InWeek problem) property pattern.days
      (on-pattern (OnVariables (InWeek problem) property) is.cells_in pattern follows) in record {
        rule_is = refl;
        terms = record {
          in_week = inside;
          rise = rises-inside problem 1 _ _ _ (omega arith) (omega arith)
              (rises-days problem n property is.cells_rise follows.first _ pattern.days follows.days_are refl) inside;
          units = units-days property pattern.days;
        };
        weighs = omega (arith, mul-le 1 1 weight pattern.units weighs some);
        has_slack = omega arith;
        enough = λ roster keeps.
            grind (arith, shortage-pattern_item rule weight property roster pattern (at_most_one roster keeps.one_cell));
      }

pub sound-run_items : (problem : Problem) (n : ℕ) (runs : Runs Cell) → IsOfNurse problem n (variables_on runs.property) → 1 ≤ runs.weight →
    AllByRecursion (IsItemSound problem runs.rule) (run_items runs)
sound-run_items problem n runs is weighs =
    each-run_item runs (IsItemSound problem runs.rule) (λ pattern found.
    sound-pattern problem runs.rule runs.weight n runs.property is pattern found.follows weighs found.some)
