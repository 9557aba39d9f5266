-- The lemmas that the laws state, by the file of the laws.
use Rattle.rota_judge.proofs.Common.Imports.{◌≡◌, pos, Roster, Rule, Problem, model_cost, rule_cost}
use Rattle.rota_items.proofs.ItemLemmas.{count-on_cells, count-work_cells, one-on, one-work, cell_number-below}
use Rattle.rota_items.proofs.ItemLemmas.{weighted_shortages-day_items, weighted_shortages-run_items, constraints-below, variables-below}
use Rattle.rota_items.proofs.ItemLemmas.{sound-rule, weighted-off_runs, weighted-on_runs, weighted-work_runs}
use Rattle.rota_judge.proofs.ModelCounts.{counted-rows, counted-constraints, counted-model}
use Rattle.rota_judge.proofs.Extension.{charges, extension-objective, extension-roster}
use Rattle.rota_judge.proofs.FirstUnmet.{extension-first_broken, first_broken}
use Rattle.rota_judge.proofs.HeldModel.{length-with_held}
use Rattle.rota_judge.proofs.ItemLaw.{extension_satisfies, item_law, value_of-extension, weighted_shortages-le}
use Rattle.rota_rules.proofs.LogicWords.{sum_below-zero}
use Rattle.rota_judge.proofs.ModelTerms.{rises-objective}
use Rattle.rota_judge.proofs.Numbers.{cell_of-cell_number, cell_of_number-in, cell_number-of}
use Rattle.rota_judge.proofs.ObjectiveBound.{objective-below, objective_value-positive}
use Rattle.rota_items.specs.ModelCosts.{IsChargedOn}
use Rattle.rota_judge.proofs.Occurrence.{occurs-exactly}

module _ (problem : Problem) (roster : Roster) where
  pub charged-rule : (rule : Rule) → IsChargedOn problem roster rule → model_cost problem roster rule ≡ pos (rule_cost problem roster rule)
  charged-rule rule on = (sound-rule problem rule).charges roster on

pub ruleset counts = (counted-rows, counted-constraints, counted-model)

pub ruleset items = (extension_satisfies, item_law, value_of-extension, weighted_shortages-le)

pub ruleset cells = (cell_number-below, cell_of-cell_number, cell_of_number-in, cell_number-of)

pub ruleset extensions = (extension-first_broken, extension-objective, extension-roster)

pub ruleset models = (cells, extensions, first_broken, length-with_held, objective-below, rises-objective, occurs-exactly)

pub ruleset rules_charged = (charges, sum_below-zero, count-on_cells, one-on, count-work_cells, one-work, charged-rule)

pub ruleset runs = (weighted_shortages-run_items, weighted_shortages-day_items, weighted-off_runs, weighted-on_runs, weighted-work_runs)

pub ruleset sizes = (variables-below, constraints-below, objective_value-positive)
