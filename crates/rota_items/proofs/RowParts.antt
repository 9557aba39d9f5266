-- No row of the constraints is an objective row: each belongs to a hard rule or to a soft rule.
use Rattle.rota_items.proofs.Common.Imports.{ℕ, List, [], ◌∷◌, AllByRecursion, AllByRecursion-append, AllByRecursion-concat_below}
use Rattle.rota_items.proofs.Common.Imports.{AllByRecursion-singleton_if, Cell, Rule, Problem, LinearRow, Item, Objective, map, cells_of}
use Rattle.rota_items.proofs.Common.Imports.{numbered_row, rule_rows, rows_of_hard_rule, hard_rules, h5_row, rows_of, item_rows, first_slack}
use Rattle.rota_items.proofs.Common.Imports.{numbered_items, H1, H2, H3, H4, H5, h3_rows_of}
use Rattle.std.specs.Prelude.{◌≢◌, ◌+◌}
use Rattle.rota_items.proofs.LogicWords.{all-flat_map, all-map}

abbrev IsConstraint : {X : Type 0} → LinearRow X → Type 0
IsConstraint row = row.part ≢ Objective

module _ (problem : Problem) where
  constraints-h5 : (cells : List Cell) → AllByRecursion IsConstraint (map h5_row cells)
  constraints-h5 [] = tt
  constraints-h5 (one ∷ cells) = ((λ same. cc), constraints-h5 cells)

  constraints-of : (rule : Rule) → AllByRecursion IsConstraint (rows_of_hard_rule problem rule)
  constraints-of H1 =
      AllByRecursion-concat_below IsConstraint problem.nurses _ (λ n _. AllByRecursion-concat_below IsConstraint 7 _ (λ d _. ((λ same. cc), tt)))
  constraints-of H2 =
      AllByRecursion-concat_below IsConstraint 7 _ (λ d _. AllByRecursion-concat_below IsConstraint problem.shifts _ (λ s _.
      AllByRecursion-concat_below IsConstraint problem.skills _ (λ k _. AllByRecursion-singleton_if IsConstraint _ _ (λ _ same. cc))))
  constraints-of H3 =
      AllByRecursion-concat_below IsConstraint problem.nurses (h3_rows_of problem) (λ n _.
      AllByRecursion-append IsConstraint _ _
      (AllByRecursion-concat_below IsConstraint problem.shifts _ (λ t _. AllByRecursion-singleton_if IsConstraint _ _ (λ _ same. cc)))
      (AllByRecursion-concat_below IsConstraint 6 _ (λ d _. AllByRecursion-concat_below IsConstraint problem.shifts _ (λ s _.
      AllByRecursion-concat_below IsConstraint problem.shifts _ (λ t _. AllByRecursion-singleton_if IsConstraint _ _ (λ _ same. cc))))))
  constraints-of H4 =
      AllByRecursion-concat_below IsConstraint problem.nurses _ (λ n _.
      AllByRecursion-concat_below IsConstraint problem.skills _ (λ k _. AllByRecursion-singleton_if IsConstraint _ _ (λ _ same. cc)))
  constraints-of H5 = constraints-h5 (cells_of problem problem.is_held)
  constraints-of rule = tt

  constraints-items : (first : ℕ) (items : List (Item ℕ)) → AllByRecursion IsConstraint (item_rows first items)
  constraints-items first [] = tt
  constraints-items first (item ∷ items) = ((λ same. cc), constraints-items (first + item.slacks) items)

  pub constraints-rows : AllByRecursion IsConstraint (rows_of problem)
  constraints-rows = (
    (λ same. cc),
    AllByRecursion-append IsConstraint _ _
        (all-map IsConstraint (numbered_row problem) (rule_rows problem) (all-flat_map IsConstraint (rows_of_hard_rule problem) hard_rules constraints-of))
        (constraints-items (first_slack problem) (numbered_items problem)),
  )
