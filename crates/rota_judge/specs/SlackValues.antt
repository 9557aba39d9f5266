-- How the values of items' slacks are sent to a taker of literals.
use Rattle.std.specs.Prelude.{◌≡◌, ℕ, Bool, nat_lt, List, [], ◌∷◌}
use Rattle.std.specs.List.{fold}
use Rattle.rota_core.specs.Lists.{concat_below}
use Rattle.rota_core.specs.Problem.{Problem}
use Rattle.rota_core.specs.Roster.{Roster}
use Rattle.rota_items.specs.RuleItems.{soft_items}
use Rattle.rota_items.specs.Events.{start_row, term_events}
use Rattle.rota_judge.specs.JudgeState.{JudgeState, judged, lacking}
use Rattle.rota_items.specs.declared.part.Part.TheVariants.{Soft}
use Rattle.rota_items.specs.Rows.{Item}
use Rattle.rota_items.specs.Takes.{RefusedFrom}
use Rattle.rota_judge.specs.Extensions.{assignment_of, is_slack_needed}
use Rattle.rota_items.specs.WeekModel.{numbered_items, slack_count}
use Rattle.rota_judge.specs.declared.literals.literal_takers.LiteralTaker.{Ghosts}

-- the truth values at the indices below count
abbrev pub truths_below : ℕ → (ℕ → Bool) → List Bool
truths_below count truth = concat_below count (λ index. truth index ∷ [])

-- the truth values of all slacks of a week, in the roster's extension
abbrev pub slack_truths : Problem → Roster → List Bool
slack_truths problem roster =
    truths_below (slack_count (soft_items problem)) (is_slack_needed (assignment_of problem roster) (numbered_items problem))

-- `count` truth values; the first `lacking` of them are true
abbrev pub first_true : ℕ → ℕ → List Bool
first_true count lacking = truths_below count (λ index. nat_lt index lacking)

-- the judge that took the terms of the item, in a row that is still open
abbrev pub with_terms_of : JudgeState → Item ℕ → JudgeState
with_terms_of judge_state item = fold judged judge_state (start_row (Soft item.rule item.weight) ∷ term_events item.terms)

-- the truth values of the item's slacks: the first are true, and their number is the shortage that the judge then finds
abbrev pub slacks_judged : JudgeState → Item ℕ → List Bool
slacks_judged judge_state item = first_true item.slacks (lacking (with_terms_of judge_state item) item.degree)

-- the taker of literals by its name, its abstract value, and the judge
pub record SlackState (V : Type 0) : Type 0 where
  pub name : ℕ
  pub value : V
  pub judge_state : JudgeState

-- the value after the literals of the item's slacks
abbrev pub with_slacks_of : {V : Type 0} → (V → Bool → V) → SlackState V → Item ℕ → SlackState V
with_slacks_of step slack_state item = record slack_state {
  value = fold step slack_state.value (slacks_judged slack_state.judge_state item);
  judge_state = with_terms_of slack_state.judge_state item;
}

-- the same taker of literals refused one of the item's slacks
abbrev pub StopsAtSlacks : {Self Fault : Type 0} → (T : Ghosts Self Fault) → SlackState T.Value → Item ℕ → ℕ → Self → Type 0
StopsAtSlacks T before item name new =
    (name ≡ before.name) × RefusedFrom T.value T.step T.left before.value (slacks_judged before.judge_state item) new
