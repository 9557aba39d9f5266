-- The items of a nurse's runs charge the cost of those runs: on the shift types, of working days and of days off.
use Rattle.rota_items.proofs.Common.Imports.{◌≡◌, ℕ, ◌*◌, ◌<◌, Bool, not, List, arith, ap, ◌∙◌, sum_by-append, AllByRecursion-append}
use Rattle.rota_items.proofs.Common.Imports.{AllByRecursion-concat_below, concat_below, KeepsOneCell, is_off, is_on, works, Roster}
use Rattle.rota_items.proofs.Common.Imports.{Problem, Rule, Cell, Item, on_cells, work_cells, weighted_shortages, Span, Property, Present}
use Rattle.rota_items.proofs.Common.Imports.{Absent, Runs, run_items, max_shifts, run_cost, shift_runs, work_runs}
use Rattle.rota_rules.specs.ConsecutiveAssignments.{consecutive_assignment_cost_of, history_on, shift_run_weight, work_run_weight}
use Rattle.rota_rules.specs.ConsecutiveDaysOff.{consecutive_day_off_cost_of, off_run_weight}
use Rattle.rota_items.specs.rules.ConsecutiveAssignments.{assignment_runs_of}
use Rattle.rota_items.specs.rules.ConsecutiveDaysOff.{days_off_runs_of, off_runs}
use Rattle.rota_items.proofs.CellCounts.{any-on, any-works}
use Rattle.rota_items.proofs.LogicWords.{few-append, few-concat_below, sum_by-each-times}
use Rattle.rota_items.proofs.RunLaw.{weighted_shortages-run_items}
use Rattle.rota_items.proofs.SoftRules.NurseProperties.{of_nurse-on, of_nurse-work, one-at_work, sound-run_items}
use Rattle.rota_items.proofs.SoftRules.Sizes.{length-on, length-work, small-runs}
use Rattle.rota_items.proofs.SoftRules.Sound.{IsItemSound, IsNurseRuleSound, weighted}

-- ---- the cost of runs, on a roster with one cell a day

module _ (problem : Problem) (roster : Roster) (one : KeepsOneCell problem roster) (n : ℕ) (n_in : n < problem.nurses) (rule : Rule) (weight history : ℕ)
    (limits : Span) where
  abbrev runs : Property Cell → Runs Cell
  runs property = record { rule = rule; weight = weight; property = property; history = history; limits = limits }

  abbrev cost : (ℕ → Bool) → ℕ
  cost has = weight * run_cost has history limits

  pub weighted-on_runs : (s : ℕ) → s < problem.shifts →
      weighted_shortages roster (run_items (runs (Present (on_cells problem n s)))) ≡ cost (is_on problem roster n s)
  weighted-on_runs s s_in =
      weighted_shortages-run_items (runs (Present (on_cells problem n s))) roster ((of_nurse-on problem n n_in s s_in).one roster one) ∙
      ap cost (any-on problem roster n s)

  pub weighted-work_runs : weighted_shortages roster (run_items (runs (Present (work_cells problem n)))) ≡ cost (works problem roster n)
  weighted-work_runs =
      weighted_shortages-run_items (runs (Present (work_cells problem n))) roster (one-at_work problem n n_in roster one) ∙
      ap cost (any-works problem roster n)

  pub weighted-off_runs : weighted_shortages roster (run_items (runs (Absent (work_cells problem n)))) ≡ cost (is_off problem roster n)
  weighted-off_runs =
      weighted_shortages-run_items (runs (Absent (work_cells problem n))) roster (one-at_work problem n n_in roster one) ∙
      ap (λ has. cost (λ d. not (has d))) (any-works problem roster n)

-- ---- the rules

module _ (problem : Problem) where
  abbrev shift_items : ℕ → ℕ → List (Item Cell)
  shift_items n s = run_items (shift_runs problem n s)

  -- the units that a nurse's runs on a shift type cost
  abbrev shift_run_cost : Roster → ℕ → ℕ → ℕ
  shift_run_cost roster n s = run_cost (is_on problem roster n s) (history_on problem n s) (problem.limits s)

  pub sound-consecutive_assignments : IsNurseRuleSound problem Rule.S2 (consecutive_assignment_cost_of problem) assignment_runs_of (λ _ _. 0)
  sound-consecutive_assignments = record {
    items = λ n n_in.
        AllByRecursion-append (IsItemSound problem Rule.S2) (concat_below problem.shifts (shift_items n)) (run_items (work_runs problem n))
        (AllByRecursion-concat_below (IsItemSound problem Rule.S2) problem.shifts (shift_items n) (λ s s_in.
        sound-run_items problem n (shift_runs problem n s) (of_nurse-on problem n n_in s s_in) (omega arith)))
        (sound-run_items problem n (work_runs problem n) (of_nurse-work problem n n_in) (omega arith));
    charges = λ roster one n n_in.
        let shifts = sum_by-each-times (weighted roster) problem.shifts shift_run_weight (shift_items n) (shift_run_cost roster n)
        (λ s. weighted-on_runs problem roster one n n_in Rule.S2 shift_run_weight (history_on problem n s) (problem.limits s) s) in
        let work = weighted-work_runs problem roster one n n_in Rule.S2 work_run_weight (problem.past n).work_run (problem.contract n).work in
        let parts = sum_by-append (weighted roster) (concat_below problem.shifts (shift_items n)) (run_items (work_runs problem n)) in
        omega arith;
    small = λ limits n.
        few-append (omega arith)
        (few-concat_below max_shifts limits.shifts _ (λ s _.
        small-runs (shift_runs problem n s) (λ d. omega (arith, length-on problem limits n s d)) (omega arith) (limits.limits s)))
        (small-runs (work_runs problem n) (λ d. omega (arith, length-work problem limits n d)) (omega arith) (limits.work_limits n));
    constant_small = λ limits n. omega arith;
  }

  pub sound-consecutive_days_off : IsNurseRuleSound problem Rule.S3 (consecutive_day_off_cost_of problem) days_off_runs_of (λ _ _. 0)
  sound-consecutive_days_off = record {
    items = λ n n_in. sound-run_items problem n (off_runs problem n) (of_nurse-work problem n n_in) (omega arith);
    charges = λ roster one n n_in.
        omega (arith, weighted-off_runs problem roster one n n_in Rule.S3 off_run_weight (problem.past n).off_run (problem.contract n).off);
    small = λ limits n. small-runs (off_runs problem n) (λ d. omega (arith, length-work problem limits n d)) (omega arith) (limits.off_limits n);
    constant_small = λ limits n. omega arith;
  }
