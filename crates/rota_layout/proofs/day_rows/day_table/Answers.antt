use Rattle.std.proofs.Common.{◌++◌, map, ap, sym, ◌∙◌, arith}
use Rattle.std.proofs.lemmas.List.{take_all}
use Rattle.rota_layout.specs.DayRows.{value_on}
use Rattle.rota_layout.proofs.TableLemmas.{one_more_row}
use Rattle.rota_layout.proofs.day_rows.day_table.Goals as goal

pub loop-day-preserved : goal.loop-day-preserved
loop-day-preserved g c =
    let rows = c.args.rows.now in
    let day = c.loop-day.day in
    let all = take_all c.loop-row.row-index rows (omega arith) in
    c.loop-row.invariant
    ∙ ap (λ of_day. c.loop-day.table.items ++ map (value_on c.args.absent day) of_day) all
    ∙ ap (λ before. before ++ map (value_on c.args.absent day) rows) c.loop-day.invariant
    ∙ sym (one_more_row (λ day. map (value_on c.args.absent day) rows) day)
