use Rattle.std.proofs.Common.{◌∙◌, arith}
use Rattle.std.proofs.lemmas.Result.{err_from_is_err_and}
use Rattle.inrc2pb_bound_program.specs.PeriodOpening.{open_week}
use Rattle.inrc2pb_bound_program.proofs.PeriodOpens.{opens_all, opens_first, opens_next, opens_no_room, stops_next}
use Rattle.inrc2pb_bound_program.proofs.open_files.open_weeks.Goals as goal

pub loop-week-init : goal.loop-week-init
loop-week-init g c = record {
  files = rw c.in_ok-opened.ensures.items (opens_first _ _ _ _ c.args.files.now);
  count = c.in_ok-opened.ensures.len;
  room = c.in_ok-opened.ensures.exact;
}

pub returns-in_err-opened : goal.returns-in_err-opened
returns-in_err-opened g c =
    let p = err_from_is_err_and c.from_residual.result c.from_residual.ensures.1 in
    rw (p.1, p.2) (opens_no_room g.O.Opens g.O.File.Source (open_week g.O.File.Source) c.args.files.now c.args.weeks.now
    (λ none. cc (c.in_err-opened.ensures.succeeds none)))

pub returns-in_err-files_of_week : goal.returns-in_err-files_of_week
returns-in_err-files_of_week g c =
    let p = err_from_is_err_and c.from_residual-in_err-files_of_week.result c.from_residual-in_err-files_of_week.ensures.1 in
    rw (p.1, p.2) (stops_next _ _ _ _ _ _ _ _ c.loop-week.invariant.files c.week-item.result c.loop-week-test.true c.week-item.is _ _
    c.in_err-files_of_week.ensures)

pub push_reserved-requires : goal.push_reserved-requires
push_reserved-requires g c =
    let inv = c.loop-week.invariant in
    omega (arith, inv.count, inv.room, c.loop-week-test.true)

pub loop-week-preserved : goal.loop-week-preserved
loop-week-preserved g c =
    let inv = c.loop-week.invariant in
    record {
      files =
          rw c.push_reserved.ensures.items (opens_next _ _ _ _ _ _ _ _ inv.files c.week-item.result c.loop-week-test.true c.week-item.is _
          c.in_ok-files_of_week.files_of_week c.in_ok-files_of_week.ensures);
      count = omega (arith, c.push_reserved.ensures.len, inv.count);
      room = c.push_reserved.ensures.capacity ∙ inv.room;
    }

pub returns : goal.returns
returns g c = opens_all _ _ _ _ _ _ _ _ c.loop-week.invariant.files (omega (arith, c.loop-week-test.false))
