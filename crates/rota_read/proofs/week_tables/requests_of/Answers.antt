use Rattle.std.proofs.Common.{◌≡◌, ◌*◌, ◌≤◌, ◌<◌, None, length, take, replicate, ap, sym, ◌∙◌, refl, arith}
use Rattle.std.proofs.lemmas.List.{length-take-le, take_all}
use Rattle.std.proofs.lemmas.List.Elements.{recursion_from_All}
use Rattle.rota_core.proofs.LogicWords.{all-weaker}
use Rattle.rota_read.specs.WeekRows.{IsRequest, index_table}
use Rattle.rota_read.proofs.CountLemmas.{no_rows_counted, index_table-maximum, row_counted}
use Rattle.rota_read.proofs.RequestTables.{request_table-by_index}
use Rattle.rota_read.proofs.week_tables.requests_of.Goals as goal

pub loop-row-init : goal.loop-row-init
loop-row-init c =
    let e = c.in_ok-table.ensures.items_if_clones_equal (λ y h. h) in
    let size : c.from.result * 7 * c.from-2.result ≡ c.args.nurses * 7 * c.args.shifts = rw (c.from.ensures, c.from-2.ensures) refl in
    e ∙ ap (λ n. replicate n 0) size ∙ no_rows_counted c.args.nurses c.args.shifts

pub count_row-requires-clause-small : goal.count_row-requires-clause-small
count_row-requires-clause-small c = λ k d lt.
    let i = c.loop-row.row-index in
    let few : length (take i c.args.rows.now) ≤ i = omega (arith, length-take-le i c.args.rows.now) in
    let e = index_table-maximum c.args.nurses c.args.shifts (take i c.args.rows.now) i few in
    let within = rw (← c.loop-row.invariant) at e in
    let one = within k d lt in
    omega arith

pub loop-row-preserved : goal.loop-row-preserved
loop-row-preserved c =
    row_counted c.args.nurses c.args.shifts c.args.rows.now c.loop-row.row-index (record { nurse = 0; shift = None; day = 0 })
    c.loop-row.table.items c.count_row.new.table.items c.loop-row-test.true c.loop-row.invariant
    c.count_row.ensures.length c.count_row.ensures.sums

pub returns : goal.returns
returns c =
    let rows = c.args.rows.now in
    let all = take_all c.loop-row.row-index rows (omega arith) in
    let within = recursion_from_All (IsRequest c.args.nurses c.args.shifts) rows c.requires.within in
    let days = all-weaker (IsRequest c.args.nurses c.args.shifts) (λ row. row.day < 7) (λ row is. is.2) rows within in
    c.loop-row.invariant
    ∙ ap (index_table c.args.nurses c.args.shifts) all
    ∙ sym (request_table-by_index c.args.nurses c.args.shifts rows days)
