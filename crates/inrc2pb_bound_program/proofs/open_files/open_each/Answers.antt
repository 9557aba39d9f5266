use Rattle.std.proofs.Common.{◌∙◌, arith}
use Rattle.std.proofs.lemmas.Result.{err_from_is_err_and}
use Rattle.inrc2pb_bound_program.specs.PeriodOpening.{open_path}
use Rattle.inrc2pb_bound_program.proofs.PeriodOpens.{opens_all, opens_first, opens_next, opens_no_room, stops_next}
use Rattle.inrc2pb_bound_program.proofs.open_files.open_each.Goals as goal

pub loop-path-init : goal.loop-path-init
loop-path-init g c = record {
  files = rw c.in_ok-opened.ensures.items (opens_first _ _ _ _ c.args.files.now);
  count = c.in_ok-opened.ensures.len;
  room = c.in_ok-opened.ensures.exact;
}

pub returns-in_err-opened : goal.returns-in_err-opened
returns-in_err-opened g c =
    let p = err_from_is_err_and c.from_residual.result c.from_residual.ensures.1 in
    rw (p.1, p.2) (opens_no_room g.O.Opens g.O.File.Source (open_path g.O.File.Source) c.args.files.now c.args.paths.now
    (λ none. cc (c.in_err-opened.ensures.succeeds none)))

pub returns-in_err-file : goal.returns-in_err-file
returns-in_err-file g c =
    let p = err_from_is_err_and c.from_residual-in_err-file.result c.from_residual-in_err-file.ensures.1 in
    rw (p.1, p.2) (stops_next _ _ _ _ _ _ _ _ c.loop-path.invariant.files c.path-item.result c.loop-path-test.true c.path-item.is _ _
    (rw c.as_str.ensures.value at c.in_err-file.ensures))

pub push_reserved-requires : goal.push_reserved-requires
push_reserved-requires g c =
    let inv = c.loop-path.invariant in
    omega (arith, inv.count, inv.room, c.loop-path-test.true)

pub loop-path-preserved : goal.loop-path-preserved
loop-path-preserved g c =
    let inv = c.loop-path.invariant in
    record {
      files =
          rw c.push_reserved.ensures.items (opens_next _ _ _ _ _ _ _ _ inv.files c.path-item.result c.loop-path-test.true c.path-item.is _
          c.in_ok-file.file (rw c.as_str.ensures.value at c.in_ok-file.ensures));
      count = omega (arith, c.push_reserved.ensures.len, inv.count);
      room = c.push_reserved.ensures.capacity ∙ inv.room;
    }

pub returns : goal.returns
returns g c = opens_all _ _ _ _ _ _ _ _ c.loop-path.invariant.files (omega (arith, c.loop-path-test.false))
