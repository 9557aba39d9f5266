-- What holds for the unit row, for each row of a hard rule and for each sound item's row holds for each row of the model.
use Rattle.rota_judge.proofs.Common.Imports.{◌≡◌, ℕ, ◌+◌, ◌<◌, ◌≤◌, List, [], ◌∷◌, map, arith, AllByRecursion, sum_by-cons, AllByRecursion-append}
use Rattle.rota_judge.proofs.Common.Imports.{Problem, Rule, Cell, cell_number, first_slack, unit_number, rule_rows, Item, numbered, LinearRow, item_row}
use Rattle.rota_judge.proofs.Common.Imports.{item_rows, slack_count, soft_items, hard_rows, model_of, numbered_items, numbered_row, rows_of, unit_row}
use Rattle.rota_judge.proofs.HardRules.EachRule.{each-row}
use Rattle.rota_judge.proofs.HardRules.Sound.{IsRowSound}
use Rattle.rota_items.proofs.LogicWords.{all-map}
use Rattle.rota_items.proofs.ItemLemmas.{each-item, IsItemSound}

module _ (problem : Problem) where
  abbrev end : ℕ
  end = (model_of problem).variables + 1

  -- P holds for the row of the unit variable, the rows of the hard rules, and the rows of sound items whose slacks are the model's
  module _ (P : LinearRow ℕ → Type 0) (unit : P (unit_row (unit_number problem)))
      (hard : (rule : Rule) (row : LinearRow Cell) → IsRowSound problem rule row → P (numbered_row problem row))
      (soft : (rule : Rule) (item : Item Cell) (first : ℕ) → IsItemSound problem rule item → unit_number problem < first →
      first + item.slacks ≤ (model_of problem).variables + 1 → P (item_row (numbered (cell_number problem) item) first)) where
    abbrev HasRule : Item Cell → Type 0
    HasRule item = (rule : Rule) × IsItemSound problem rule item

    each-item_row : (first : ℕ) (items : List (Item Cell)) → unit_number problem < first → first + slack_count items ≤ end →
        AllByRecursion HasRule items → AllByRecursion P (item_rows first (map (numbered (cell_number problem)) items))
    each-item_row first [] after up_to all = tt
    each-item_row first (item ∷ items) after up_to all =
        let more : slack_count (item ∷ items) ≡ item.slacks + slack_count items = sum_by-cons (λ (i : Item Cell). i.slacks) item items in (
          soft all.0.0 item first all.0.1 after (omega (arith, more, up_to)),
          each-item_row (first + item.slacks) items (omega (arith, after)) (omega (arith, more, up_to)) all.1,
        )

    pub each-model_row : AllByRecursion P (rows_of problem)
    each-model_row =
        AllByRecursion-append P (hard_rows problem) (item_rows (first_slack problem) (numbered_items problem))
        (unit, all-map P (numbered_row problem) (rule_rows problem) (each-row problem (λ row. P (numbered_row problem row)) hard))
        (each-item_row (first_slack problem) (soft_items problem) (omega arith) (omega arith)
        (each-item problem HasRule (λ rule item soft sound. (rule, sound))))
