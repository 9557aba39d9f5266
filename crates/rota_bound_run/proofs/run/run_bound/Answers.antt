use Rattle.std.proofs.Common.{◌≡◌, ◌<◌, ◌∙◌, refl, arith, length}
use Rattle.rota_pb.specs.Steps.{went_on}
use Rattle.rota_bound_run.specs.Bounding.{bound_run}
use Rattle.rota_bound_run.specs.PeriodRead.{period_of}
use Rattle.rota_pb.proofs.Steps.{stopped_by}
use Rattle.rota_bound_run.proofs.PeriodRuns.{left-answer, left-proof, left-rosters, proof-for-all}
use Rattle.rota_bound_run.proofs.PeriodWeeks.{are-evidence, are-given, is-period}
use Rattle.rota_bound_run.proofs.run.run_bound.Goals as goal

pub returns-in_err-period : goal.returns-in_err-period
unfolding bound_run
returns-in_err-period g c =
    stopped_by _ _ c.from_residual.ensures.1 c.in_err-period.ensures.reads (left-proof g.S.Source c.args.files.now c.args.out.now)

pub returns-in_err-certificate : goal.returns-in_err-certificate
unfolding bound_run
returns-in_err-certificate g c =
    let period = period_of c.in_ok-period.period in
    let count : c.len-count.result ≡ length period.weeks = c.len-count.ensures ∙ c.in_ok-period.period.weeks.ok.0 in
    went_on period c.in_ok-period.ensures.reads
    (stopped_by _ _ c.from_residual-in_err-certificate.ensures.1 (_, refl, proof-for-all _ _ _ count c.in_err-certificate.ensures.reads)
    (left-rosters g.S.Source c.args.files.now c.args.out.now period))

pub returns-in_err-judged : goal.returns-in_err-judged
unfolding bound_run
returns-in_err-judged g c =
    let period = period_of c.in_ok-period.period in
    let count : c.len-count.result ≡ length period.weeks = c.len-count.ensures ∙ c.in_ok-period.period.weeks.ok.0 in
    went_on period c.in_ok-period.ensures.reads
    (went_on c.in_ok-certificate.certificate (proof-for-all _ _ _ count c.in_ok-certificate.ensures.reads)
    (stopped_by _ _ c.from_residual-in_err-judged.ensures.1 c.in_err-judged.ensures.reads
    (left-answer g.S.Source c.args.files.now c.args.out.now)))

pub returns-in_err-answer : goal.returns-in_err-answer
unfolding bound_run
returns-in_err-answer g c =
    let period = period_of c.in_ok-period.period in
    let count : c.len-count.result ≡ length period.weeks = c.len-count.ensures ∙ c.in_ok-period.period.weeks.ok.0 in
    went_on period c.in_ok-period.ensures.reads
    (went_on c.in_ok-certificate.certificate (proof-for-all _ _ _ count c.in_ok-certificate.ensures.reads)
    (went_on c.in_ok-judged.judged c.in_ok-judged.ensures.reads
    (stopped_by _ _ c.from_residual-in_err-answer.ensures.1 refl (λ answer. refl))))

pub returns : goal.returns
unfolding bound_run
returns g c =
    let period = period_of c.in_ok-period.period in
    let count : c.len-count.result ≡ length period.weeks = c.len-count.ensures ∙ c.in_ok-period.period.weeks.ok.0 in
    let weeks : c.deref.result.now ≡ period.weeks = c.deref.ensures.value ∙ c.in_ok-judged.ensures.same in
    went_on period c.in_ok-period.ensures.reads
    (went_on c.in_ok-certificate.certificate (proof-for-all _ _ _ count c.in_ok-certificate.ensures.reads)
    (went_on c.in_ok-judged.judged c.in_ok-judged.ensures.reads
    (went_on c.in_ok-answer.answer (rw (weeks, c.deref-2.ensures.value) at c.in_ok-answer.ensures) c.send_answer.ensures)))

pub overflow_cast-count : goal.overflow_cast-count
overflow_cast-count g c =
    let period = period_of c.in_ok-period.period in
    omega (arith, c.len-count.ensures, c.in_ok-period.period.weeks.ok.0, (is-period _ period.ward period.weeks c.in_ok-period.ensures.fits.weeks).count)

pub judge_plan-requires-clause-period : goal.judge_plan-requires-clause-period
judge_plan-requires-clause-period g c =
    let period = period_of c.in_ok-period.period in
    is-period _ period.ward period.weeks c.in_ok-period.ensures.fits.weeks

pub judge_plan-requires-clause-given : goal.judge_plan-requires-clause-given
judge_plan-requires-clause-given g c =
    let period = period_of c.in_ok-period.period in
    let some : 0 < length period.weeks = omega (arith, c.in_ok-period.ensures.count, c.requires.files.some) in
    are-given _ period c.in_ok-period.ensures.fits some

pub judge_plan-requires-clause-rosters : goal.judge_plan-requires-clause-rosters
judge_plan-requires-clause-rosters g c = rw c.in_ok-period.ensures.count c.requires.files.rosters

pub answer_for-requires-clause-evidence : goal.answer_for-requires-clause-evidence
answer_for-requires-clause-evidence g c =
    let period = period_of c.in_ok-period.period in
    let weeks : c.deref.result.now ≡ period.weeks = c.deref.ensures.value ∙ c.in_ok-judged.ensures.same in
    let some : 0 < length period.weeks = omega (arith, c.in_ok-period.ensures.count, c.requires.files.some) in
    rw (weeks, c.deref-2.ensures.value)
    (are-evidence _ period c.in_ok-period.ensures.fits some c.in_ok-certificate.certificate _
    (c.len-count.ensures ∙ c.in_ok-period.period.weeks.ok.0) c.in_ok-certificate.ensures.shape)
