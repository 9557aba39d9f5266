use Rattle.std.proofs.Common.{◌≡◌, ℕ, ◌+◌, ◌<◌, ap, ◌∙◌, subst, sym, arith, List, [], ◌∷◌, length, length-append, Result}
use Rattle.std.proofs.lemmas.Result.{err_from_is_err_and}
use Rattle.std.specs.Prelude.{Bool, slice_set}
use Rattle.rota_core.specs.InstanceTables.{InstanceTables}
use Rattle.byte_ports.specs.declared.ports.Source.{Ghosts}
use Rattle.rota_pb.specs.declared.period_fault.PeriodFault.{PeriodFault}
use Rattle.rota_bound_run.specs.PeriodFiles.{each_of, week_readers}
use Rattle.rota_bound_run.specs.PeriodRead.{read_next, read_weeks}
use Rattle.rota_bound_run.specs.PeriodSteps.{in_turn}
use Rattle.rota_bound_run.specs.WeeksRead.{AreWeeksFrom, IsWeekAt}
use Rattle.rota_bound_run.specs.declared.files.WeekFiles.{WeekFiles}
use Rattle.rota_bound_run.specs.declared.ward.Ward.{Ward}
use Rattle.rota_bound_run.proofs.InTurn.{length-each, reads-all, reads-more, reads-none, stops-at}
use Rattle.rota_bound_run.proofs.PeriodWeeks.{weeks-more}
use Rattle.rota_bound_run.proofs.WeekSteps.{lacks-memory, reads-no-week, reads-week, stops-week}
use Rattle.rota_bound_run.proofs.weeks.read_weeks.Goals as goal

-- there is a week for each file
counted : {S : Type 0} (port : Ghosts S) (early : Bool) (ward : Ward) (olds now : List (WeekFiles S)) (result : Result
    (List InstanceTables) PeriodFault) →
    (in_turn (read_next early ward (length olds)) [] (each_of (week_readers port) olds now)).ends result →
    (read_weeks early ward (each_of (week_readers port) olds now)).ends result
counted port early ward olds now result ends =
    subst (λ (n : ℕ). (in_turn (read_next early ward n) [] (each_of (week_readers port) olds now)).ends result)
    (sym (length-each (read_next early ward (length olds)) (week_readers port) [] olds now)) ends

pub loop-index-init : goal.loop-index-init
unfolding AreWeeksFrom
loop-index-init g c = record {
  reads = rw c.new-weeks.ensures.items (reads-none (read_next c.args.early c.args.ward.now (length c.args.files.now.items))
      (week_readers g.S.Source) [] c.args.files.now.items);
  weeks = rw c.new-weeks.ensures.items tt;
  number = ap length c.new-weeks.ensures.items;
}

pub returns-in_err-push-in-Ok-clause-reads : goal.returns-in_err-push-in-Ok-clause-reads
returns-in_err-push-in-Ok-clause-reads g c =
    let p = err_from_is_err_and c.from_residual.result c.from_residual.ensures.1 in
    let step = read_next c.args.early c.args.ward.now (length c.args.files.now.items) in
    let i = c.loop-index.index in
    let inv = c.loop-index.invariant in
    let inside : c.loop-index.index < length c.args.files.now.items = omega (arith, c.loop-index-test.true, c.len-count.ensures, c.args.files.now.ok.0) in
    rw (p.1, p.2)
    (counted g.S.Source c.args.early c.args.ward.now c.args.files.now.items (slice_set c.loop-index.files.items i c.read_period_week.new.files) _
    (stops-at step (week_readers g.S.Source) [] c.args.files.now.items i c.loop-index.files.items c.loop-index.weeks.items inv.reads inside
    c.index_mut.result.now c.read_period_week.new.files c.index_mut.ensures.value
    (reads-no-week g.S.Source c.args.early c.args.ward.now (length c.args.files.now.items)) _
    (lacks-memory g.S.Source c.args.early c.args.ward.now (length c.args.files.now.items) c.loop-index.weeks.items i inv.number
    c.index_mut.result.now c.read_period_week.new.files c.in-Ok.week c.in-Ok.ensures.reads)))

pub returns-in-Err-clause-reads : goal.returns-in-Err-clause-reads
returns-in-Err-clause-reads g c =
    let step = read_next c.args.early c.args.ward.now (length c.args.files.now.items) in
    let i = c.loop-index.index in
    let inv = c.loop-index.invariant in
    let inside : c.loop-index.index < length c.args.files.now.items = omega (arith, c.loop-index-test.true, c.len-count.ensures, c.args.files.now.ok.0) in
    let count : c.len-count.result ≡ length c.args.files.now.items = c.len-count.ensures ∙ c.args.files.now.ok.0 in
    rw (c.in_week.ensures, count)
    (counted g.S.Source c.args.early c.args.ward.now c.args.files.now.items (slice_set c.loop-index.files.items i c.read_period_week.new.files) _
    (stops-at step (week_readers g.S.Source) [] c.args.files.now.items i c.loop-index.files.items c.loop-index.weeks.items inv.reads inside
    c.index_mut.result.now c.read_period_week.new.files c.index_mut.ensures.value
    (reads-no-week g.S.Source c.args.early c.args.ward.now (length c.args.files.now.items)) _
    (stops-week g.S.Source c.args.early c.args.ward.now (length c.args.files.now.items) c.loop-index.weeks.items i inv.number
    c.index_mut.result.now c.read_period_week.new.files c.in-Err.fault c.in-Err.ensures.reads)))

pub loop-index-preserved : goal.loop-index-preserved
loop-index-preserved g c =
    let step = read_next c.args.early c.args.ward.now (length c.args.files.now.items) in
    let i = c.loop-index.index in
    let inv = c.loop-index.invariant in
    let inside : c.loop-index.index < length c.args.files.now.items = omega (arith, c.loop-index-test.true, c.len-count.ensures, c.args.files.now.ok.0) in
    let there : i ≡ 0 + length c.loop-index.weeks.items = omega (arith, inv.number) in
    let pushed = c.in_ok-push-in-Ok.ensures.items in
    record {
      reads =
          reads-more step (week_readers g.S.Source) [] c.args.files.now.items i c.loop-index.files.items c.loop-index.weeks.items inv.reads inside
          c.index_mut.result.now c.read_period_week.new.files c.index_mut.ensures.value c.push.new.self.items
          (reads-week g.S.Source c.args.early c.args.ward.now (length c.args.files.now.items) c.loop-index.weeks.items i inv.number
          c.index_mut.result.now c.read_period_week.new.files c.in-Ok.week c.push.new.self.items c.in-Ok.ensures.reads pushed);
      weeks =
          rw pushed (weeks-more c.args.early c.args.ward.now 0 c.loop-index.weeks.items c.in-Ok.week inv.weeks
          (subst (λ (n : ℕ). IsWeekAt c.args.early c.args.ward.now n c.in-Ok.week) there c.in-Ok.ensures.week));
      number = ap length pushed ∙ length-append c.loop-index.weeks.items (c.in-Ok.week ∷ []) ∙ ap (λ (n : ℕ). n + 1) inv.number;
    }

pub returns-clause-reads : goal.returns-clause-reads
returns-clause-reads g c =
    counted g.S.Source c.args.early c.args.ward.now c.args.files.now.items c.loop-index.files.items _
    (reads-all (read_next c.args.early c.args.ward.now (length c.args.files.now.items)) (week_readers g.S.Source) [] c.args.files.now.items
    c.loop-index.index c.loop-index.files.items c.loop-index.weeks.items c.loop-index.invariant.reads (omega (arith, c.loop-index-test.false, c.len-count.ensures, c.args.files.now.ok.0)))
