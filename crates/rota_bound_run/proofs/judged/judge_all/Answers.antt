use Rattle.std.proofs.Common.{◌≡◌, ◌<◌, ◌∙◌, refl, arith, [], length}
use Rattle.std.proofs.lemmas.List.{set-get_or}
use Rattle.std.proofs.lemmas.Result.{err_from_is_err_and}
use Rattle.rota_pb.specs.RunPorts.{reader_of}
use Rattle.rota_pb.specs.Steps.{stopped, went_on}
use Rattle.rota_bound_run.specs.PlanJudged.{judge_next}
use Rattle.rota_bound_run.proofs.InTurn.{none-touched, reads-all, reads-more, reads-none, stops-at}
use Rattle.rota_bound_run.proofs.Judging.{judges-more, judges-start, next-week, pasts-for, small-sum}
use Rattle.rota_bound_run.proofs.PlanSteps.{before}
use Rattle.rota_bound_run.proofs.PeriodRuns.{judges-no-roster, judges-roster, stops-roster}
use Rattle.rota_bound_run.proofs.judged.judge_all.Goals as goal

pub returns-in_err-rosters-clause-reads : goal.returns-in_err-rosters-clause-reads
returns-in_err-rosters-clause-reads g c =
    let p = err_from_is_err_and c.from_residual.result c.from_residual.ensures.1 in
    rw (p.1, p.2)
    (stopped _ refl refl
    (λ _. none-touched (judge_next c.args.weeks.now.items) (reader_of g.S.Source) [] c.args.files.now.items (judges-no-roster g.S.Source
    c.args.weeks.now.items) []
    c.args.files.now.items))

pub returns-in_err-pasts-clause-reads : goal.returns-in_err-pasts-clause-reads
returns-in_err-pasts-clause-reads g c =
    let p = err_from_is_err_and c.from_residual-in_err-pasts.result c.from_residual-in_err-pasts.ensures.1 in
    rw (p.1, p.2)
    (stopped _ refl refl
    (λ _. none-touched (judge_next c.args.weeks.now.items) (reader_of g.S.Source) [] c.args.files.now.items (judges-no-roster g.S.Source
    c.args.weeks.now.items) []
    c.args.files.now.items))

pub loop-index-init : goal.loop-index-init
loop-index-init g c = record {
  reads = rw c.in_ok-rosters.ensures.items (reads-none (judge_next c.args.weeks.now.items) (reader_of g.S.Source) [] c.args.files.now.items);
  judged =
      judges-start c.args.weeks.now.items c.index.result.now c.in_ok-rosters.rosters.items c.in_ok-pasts.pasts.items c.requires.some
      c.index.ensures c.in_ok-rosters.ensures.items c.in_ok-pasts.ensures;
  same = refl;
  count = c.in_ok-rosters.ensures.len;
  room = c.in_ok-rosters.ensures.exact ∙ c.len-count.ensures ∙ c.args.weeks.now.ok.0;
}

pub push_reserved-requires : goal.push_reserved-requires
push_reserved-requires g c =
    let inv = c.loop-index.invariant in
    omega (arith, inv.count, inv.room, c.loop-index-test.true, c.len-count.ensures, c.args.weeks.now.ok.0)

pub judge_week-requires : goal.judge_week-requires
judge_week-requires g c =
    let inv = c.loop-index.invariant in
    let inside : c.loop-index.index < length c.args.weeks.now.items = omega (arith, c.loop-index-test.true, c.len-count.ensures, c.args.weeks.now.ok.0) in
    let next = next-week c.args.weeks.now.items c.loop-index.weeks.items c.index_mut.result.now c.requires.period inv.same
    c.index_mut.ensures.value (omega (arith, inside)) in
    (pasts-for c.args.weeks.now.items c.loop-index.index c.loop-index.judged.rosters.items c.loop-index.judged.penalty c.loop-index.pasts.items
    c.index_mut.result.now inv.judged next.numbers).count

pub overflow_add-judged : goal.overflow_add-judged
overflow_add-judged g c =
    let inv = c.loop-index.invariant in
    let weeks = c.args.weeks.now.items in
    let rosters = c.loop-index.judged.rosters.items in
    let i = c.loop-index.index in
    let inside : i < length weeks = omega (arith, c.loop-index-test.true, c.len-count.ensures, c.args.weeks.now.ok.0) in
    let next = next-week weeks c.loop-index.weeks.items c.index_mut.result.now c.requires.period inv.same c.index_mut.ensures.value (omega (arith, inside)) in
    let are = pasts-for weeks i rosters c.loop-index.judged.penalty c.loop-index.pasts.items c.index_mut.result.now inv.judged next.numbers in
    let judged = (c.in-Ok.ensures.judged) (before weeks rosters) are in
    let few : i < 52 = omega (arith, inside, c.requires.period.count) in
    omega (arith, small-sum i c.loop-index.judged.penalty c.in-Ok.week.penalty few inv.judged.small judged.costs.small)

pub returns-in-Err-clause-reads : goal.returns-in-Err-clause-reads
returns-in-Err-clause-reads g c =
    let inv = c.loop-index.invariant in
    let weeks = c.args.weeks.now.items in
    let rosters = c.loop-index.judged.rosters.items in
    let i = c.loop-index.index in
    let inside : i < length weeks = omega (arith, c.loop-index-test.true, c.len-count.ensures, c.args.weeks.now.ok.0) in
    let next = next-week weeks c.loop-index.weeks.items c.index_mut.result.now c.requires.period inv.same c.index_mut.ensures.value (omega (arith, inside)) in
    let are = pasts-for weeks i rosters c.loop-index.judged.penalty c.loop-index.pasts.items c.index_mut.result.now inv.judged next.numbers in
    let of_files : i < length c.args.files.now.items = omega (arith, inside, c.requires.count) in
    let reads = c.in-Err.ensures.reads in
    let count : c.len-count.result ≡ length weeks = c.len-count.ensures ∙ c.args.weeks.now.ok.0 in
    rw (c.in_week.ensures, count)
    (went_on tt tt
    (stops-at (judge_next weeks) (reader_of g.S.Source) [] c.args.files.now.items i c.loop-index.files.items rosters inv.reads of_files
    c.index_mut-in-loop-index.result.now c.judge_week.new.file c.index_mut-in-loop-index.ensures.value (judges-no-roster g.S.Source weeks) _
    (stops-roster g.S.Source weeks rosters i inv.judged.number c.index_mut.result.now next.at c.index_mut-in-loop-index.result.now
    c.judge_week.new.file
    c.in-Err.fault (reads (before weeks rosters) are))))

pub loop-index-preserved : goal.loop-index-preserved
loop-index-preserved g c =
    let inv = c.loop-index.invariant in
    let weeks = c.args.weeks.now.items in
    let rosters = c.loop-index.judged.rosters.items in
    let i = c.loop-index.index in
    let inside : i < length weeks = omega (arith, c.loop-index-test.true, c.len-count.ensures, c.args.weeks.now.ok.0) in
    let next = next-week weeks c.loop-index.weeks.items c.index_mut.result.now c.requires.period inv.same c.index_mut.ensures.value (omega (arith, inside)) in
    let are = pasts-for weeks i rosters c.loop-index.judged.penalty c.loop-index.pasts.items c.index_mut.result.now inv.judged next.numbers in
    let of_files : i < length c.args.files.now.items = omega (arith, inside, c.requires.count) in
    let reads = c.in-Ok.ensures.reads in
    let judged = (c.in-Ok.ensures.judged) (before weeks rosters) are in
    let pushed = c.push_reserved.ensures.items in
    record {
      reads =
          reads-more (judge_next weeks) (reader_of g.S.Source) [] c.args.files.now.items i c.loop-index.files.items rosters inv.reads of_files
          c.index_mut-in-loop-index.result.now c.judge_week.new.file c.index_mut-in-loop-index.ensures.value c.push_reserved.new.self.items
          (judges-roster g.S.Source weeks rosters i inv.judged.number c.index_mut.result.now next.at c.index_mut-in-loop-index.result.now
          c.judge_week.new.file c.in-Ok.week.roster c.push_reserved.new.self.items (reads (before weeks rosters) are) pushed);
      judged =
          rw pushed (judges-more weeks i rosters c.loop-index.judged.penalty c.loop-index.pasts.items inv.judged
          c.index_mut.result.now
          next.here next.numbers c.in-Ok.week.roster c.in-Ok.week judged);
      same = rw (c.in-Ok.ensures.same, c.index_mut.ensures.value) (set-get_or c.loop-index.weeks.items _ c.index_mut.result.now ∙ inv.same);
      count = omega (arith, c.push_reserved.ensures.len, inv.count);
      room = omega (arith, c.push_reserved.ensures.capacity, inv.room);
    }

pub returns-clause-reads : goal.returns-clause-reads
returns-clause-reads g c =
    went_on tt tt
    (reads-all (judge_next c.args.weeks.now.items) (reader_of g.S.Source) [] c.args.files.now.items c.loop-index.index c.loop-index.files.items
    c.loop-index.judged.rosters.items c.loop-index.invariant.reads (omega (arith, c.loop-index-test.false, c.len-count.ensures, c.args.weeks.now.ok.0, c.requires.count)))
