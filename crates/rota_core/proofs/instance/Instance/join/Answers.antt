use Rattle.std.proofs.Common.{arith, ap, ◌∙◌}
use Rattle.rota_core.specs.WeekTables.{HistoryTables, WeekTables}
use Rattle.rota_core.proofs.instance.Instance.join.Goals as goal

pub invariant_of-result : goal.invariant_of-result
invariant_of-result c = record {
  scenario = c.weeks.ensures.within;
  history = rw c.into_parts-history.ensures.tables c.into_parts-history.ensures.within;
  week = rw c.into_parts.ensures.tables c.into_parts.ensures.within;
  history_fits = ap (λ (t : HistoryTables). t.numbers) c.into_parts-history.ensures.tables ∙ c.requires.history_fits;
  week_fits = ap (λ (t : WeekTables). t.numbers) c.into_parts.ensures.tables ∙ c.requires.week_fits;
  spanned = grind (arith, c.if-history-weeks, c.weeks.ensures.weeks);
  held = grind arith;
}
