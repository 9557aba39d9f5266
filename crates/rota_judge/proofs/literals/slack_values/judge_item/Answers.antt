use Rattle.rota_judge.proofs.Common.{◌≡◌, List, Result, Ok, Err, fold, cell_term_events, Event, JudgeState, judged, TakesAll}
use Rattle.rota_judge.proofs.literals.slack_values.judge_item.Goals as goal

-- a judge refuses nothing
took_every : {F : Type 0} (events : List Event) (old new : JudgeState) (r : Result (Unit {0}) F) →
    TakesAll (λ judge. judge) judged (λ _ _ _. ⊥) events old new r → new ≡ fold judged old events
took_every events old new (Ok x) took = took.value_is
took_every events old new (Err e) refused = absurd refused.leaves

pub returns : goal.returns
unfolding cell_term_events
returns c = rw (rw c.from.ensures at c.in_ok-start_row.ensures) at (took_every _ _ _ c.emit_sum.result c.emit_sum.ensures)
