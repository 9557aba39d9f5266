use Rattle.rota_items.proofs.Common.{arith, exits}
use Rattle.rota_items.proofs.DayTerms.{days_none, days_more, days_refused}
use Rattle.rota_items.proofs.sum_terms.emit_days.Goals as goal

pub loop-day-init : goal.loop-day-init
loop-day-init g c = days_none _ _ g.T.Taker c.args.first 0 _

pub returns-in_err-emit_day : goal.returns-in_err-emit_day
returns-in_err-emit_day g c =
    exits _ _ _ _ c.from_residual.ensures.0
    (days_refused _ _ g.T.Taker c.args.first c.loop-day.day _ _ _ _ (omega arith) (omega arith) c.loop-day.invariant c.in_err-emit_day.ensures)

pub loop-day-preserved : goal.loop-day-preserved
loop-day-preserved g c = days_more _ _ g.T.Taker c.args.first c.loop-day.day _ _ _ (omega arith) c.loop-day.invariant c.in_ok-emit_day.ensures
