-- How the model charges S3: the items of a nurse's runs of days off.
use Rattle.rota_items.specs.RunItems.{ℕ, List, Cell, Problem, Rule, work_cells, Item, Runs, Absent, run_items}
use Rattle.rota_rules.specs.ConsecutiveDaysOff.{off_run_weight}

-- a nurse's runs of days off
abbrev pub off_runs : Problem → ℕ → Runs Cell
off_runs problem n = record {
  rule = Rule.S3;
  weight = off_run_weight;
  property = Absent (work_cells problem n);
  history = (problem.past n).off_run;
  limits = (problem.contract n).off;
}

-- the items of a nurse's runs
abbrev pub days_off_runs_of : Problem → ℕ → List (Item Cell)
days_off_runs_of problem n = run_items (off_runs problem n)
