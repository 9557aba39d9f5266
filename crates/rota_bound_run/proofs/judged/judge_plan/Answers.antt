use Rattle.std.proofs.Common.{refl}
use Rattle.std.proofs.lemmas.Result.{err_from_is_err_and}
use Rattle.rota_certificate_read.specs.FactsLayout.{given_of}
use Rattle.rota_pb.specs.Steps.{stopped, went_on}
use Rattle.rota_bound_run.proofs.PeriodRuns.{is-zero, judges-no-rosters, judges-some, not-zero}
use Rattle.rota_bound_run.proofs.judged.judge_plan.Goals as goal

pub returns-then-is_empty-clause-reads : goal.returns-then-is_empty-clause-reads
returns-then-is_empty-clause-reads g c =
    judges-no-rosters g.S.Source c.args.weeks.now.items (given_of c.args.given.now) c.args.files.now.items c.args.files.now.items
    (is-zero _ _ _ c.args.files.now.ok.0 c.is_empty.ensures c.if-is_empty.true)

pub returns-in_err-judged-clause-reads : goal.returns-in_err-judged-clause-reads
returns-in_err-judged-clause-reads g c =
    let p = err_from_is_err_and c.from_residual.result c.from_residual.ensures.1 in
    rw (p.1, p.2)
    (judges-some g.S.Source c.args.weeks.now.items (given_of c.args.given.now) c.args.files.now.items c.judge_all.new.files.items
    (not-zero _ _ _ c.args.files.now.ok.0 c.is_empty.ensures c.if-is_empty.false) _
    (stopped _ refl c.in_err-judged.ensures.reads (λ rosters. (tt, λ judged. tt))))

pub returns-in_err-meet_given-clause-reads : goal.returns-in_err-meet_given-clause-reads
returns-in_err-meet_given-clause-reads g c =
    let p = err_from_is_err_and c.from_residual-in_err-meet_given.result c.from_residual-in_err-meet_given.ensures.1 in
    rw (p.1, p.2)
    (judges-some g.S.Source c.args.weeks.now.items (given_of c.args.given.now) c.args.files.now.items c.judge_all.new.files.items
    (not-zero _ _ _ c.args.files.now.ok.0 c.is_empty.ensures c.if-is_empty.false) _
    (went_on c.in_ok-judged.judged.rosters.items c.in_ok-judged.ensures.reads
    (stopped _ refl (rw (c.deref.ensures.value, c.in_ok-judged.ensures.same) at c.in_err-meet_given.ensures) (λ judged. tt))))

pub returns-clause-reads : goal.returns-clause-reads
returns-clause-reads g c =
    judges-some g.S.Source c.args.weeks.now.items (given_of c.args.given.now) c.args.files.now.items c.judge_all.new.files.items
    (not-zero _ _ _ c.args.files.now.ok.0 c.is_empty.ensures c.if-is_empty.false) _
    (went_on c.in_ok-judged.judged.rosters.items c.in_ok-judged.ensures.reads
    (went_on c.in_ok-meet_given.field-0 (rw (c.deref.ensures.value, c.in_ok-judged.ensures.same) at c.in_ok-meet_given.ensures) refl))
