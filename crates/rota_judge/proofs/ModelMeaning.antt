-- An assignment satisfies the model if and only if the unit variable is true, its roster keeps the hard rules, and the items' rows hold.
use Rattle.rota_judge.proofs.Common.Imports.{◌≡◌, ◌↔◌, ℕ, Bool, true, List, [], ◌∷◌, map, map-append, sym, subst, All, AllByRecursion, AllByRecursion-append}
use Rattle.rota_judge.proofs.Common.Imports.{AllByRecursion-back, All-from_recursion, recursion_from_All, KeepsHardRules, Problem, Cell, first_slack}
use Rattle.rota_judge.proofs.Common.Imports.{unit_number, rule_rows, Constraint, Satisfies, SatisfiesModel, LinearRow, linear_constraint, item_constraints}
use Rattle.rota_judge.proofs.Common.Imports.{item_rows, hard_rows, numbered_items, numbered_row, hard_constraints, model_of, roster_of, cell_number}
use Rattle.rota_judge.proofs.HardRules.EachRule.{rule_rows-hold, rule_rows-mean}
use Rattle.rota_judge.proofs.HardRules.Sound.{AllHold, one-where_true}
use Rattle.rota_judge.proofs.ItemLaw.{value_of-numbered}

module _ (problem : Problem) (assignment : ℕ → Bool) where
  abbrev soft_constraints : List Constraint
  soft_constraints = item_constraints (first_slack problem) (numbered_items problem)

  -- the numbered rows hold if and only if the rows do
  rows-satisfied : (rows : List (LinearRow Cell)) →
      AllByRecursion (Satisfies assignment) (map linear_constraint (map (numbered_row problem) rows)) ↔ AllHold (roster_of problem assignment) rows
  rows-satisfied [] = (λ all. tt, λ all. tt)
  rows-satisfied (row ∷ rows) =
      let value = value_of-numbered (cell_number problem) assignment row.terms in
      let rest = rows-satisfied rows in
      (λ all. (rw value at all.0, rest.0 all.1), λ all. (rw value all.0, rest.1 all.1))

  pub hard_constraints-mean : All (Satisfies assignment) (hard_constraints problem) ↔
      ((assignment (unit_number problem) ≡ true) × KeepsHardRules problem (roster_of problem assignment))
  hard_constraints-mean =
      let unit = one-where_true (assignment (unit_number problem)) in
      let rows = rows-satisfied (rule_rows problem) in (
        λ all.
            let all = recursion_from_All (Satisfies assignment) (hard_constraints problem) all in
            (unit.0 all.0, rule_rows-mean problem (roster_of problem assignment) (rows.0 all.1)),
        λ both.
            All-from_recursion (Satisfies assignment) (hard_constraints problem)
            (unit.1 both.0, rows.1 (rule_rows-hold problem (roster_of problem assignment) both.1)),
      )

  pub model-means : SatisfiesModel assignment (model_of problem) ↔
      ((assignment (unit_number problem) ≡ true) × KeepsHardRules problem (roster_of problem assignment) × All (Satisfies assignment) soft_constraints)
  model-means =
      let P = Satisfies assignment in
      let are = map-append linear_constraint (hard_rows problem) (item_rows (first_slack problem) (numbered_items problem)) in (
        λ all.
            let parts =
            AllByRecursion-back P (hard_constraints problem) soft_constraints
            (subst (AllByRecursion P) are (recursion_from_All P (model_of problem).constraints all)) in
            let hard = hard_constraints-mean.0 (All-from_recursion P (hard_constraints problem) parts.0) in
            (hard.0, hard.1, All-from_recursion P soft_constraints parts.1),
        λ parts.
            let hard = recursion_from_All P (hard_constraints problem) (hard_constraints-mean.1 (parts.0, parts.1)) in
            All-from_recursion P (model_of problem).constraints
            (subst (AllByRecursion P) (sym are)
            (AllByRecursion-append P (hard_constraints problem) soft_constraints hard (recursion_from_All P soft_constraints parts.2))),
      )
