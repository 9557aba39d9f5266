-- How the model charges S2: the items of a nurse's runs.
use Rattle.std.specs.Prelude.{◌++◌}
use Rattle.rota_items.specs.RunItems.{ℕ, List, Cell, Problem, Rule, concat_below, on_cells, work_cells, Item, Runs, Present, run_items}
use Rattle.rota_rules.specs.ConsecutiveAssignments.{shift_run_weight, work_run_weight, history_on}

-- a nurse's runs of days on a shift type
abbrev pub shift_runs : Problem → ℕ → ℕ → Runs Cell
shift_runs problem n s = record {
  rule = Rule.S2;
  weight = shift_run_weight;
  property = Present (on_cells problem n s);
  history = history_on problem n s;
  limits = problem.limits s;
}

-- a nurse's runs of working days
abbrev pub work_runs : Problem → ℕ → Runs Cell
work_runs problem n = record {
  rule = Rule.S2;
  weight = work_run_weight;
  property = Present (work_cells problem n);
  history = (problem.past n).work_run;
  limits = (problem.contract n).work;
}

-- the items of a nurse's runs
abbrev pub assignment_runs_of : Problem → ℕ → List (Item Cell)
assignment_runs_of problem n =
    concat_below problem.shifts (λ s. run_items (shift_runs problem n s)) ++ run_items (work_runs problem n)
