use Rattle.std.proofs.Common.{◌≡◌, ◌∙◌, refl, arith, length}
use Rattle.std.proofs.lemmas.Result.{err_from_is_err_and}
use Rattle.rota_pb.specs.Steps.{stopped, went_on}
use Rattle.rota_bound_run.proofs.PeriodRuns.{given-for-all, gives-none, reads-no-weeks}
use Rattle.rota_bound_run.proofs.PeriodWeeks.{is-period}
use Rattle.rota_bound_run.proofs.period.read_period.Goals as goal

pub returns-in_err-ward-clause-reads : goal.returns-in_err-ward-clause-reads
returns-in_err-ward-clause-reads g c =
    let given = c.args.given_file.now in
    let p = err_from_is_err_and c.from_residual.result c.from_residual.ensures.1 in
    rw (p.1, p.2)
    (stopped _ refl (_, refl, c.in_err-ward.ensures.reads) (λ ward. (
      reads-no-weeks g.S.Source c.args.early ward c.args.week_files.now.items,
      λ weeks. (gives-none g.S.Source ward.scenario (length weeks) given, λ facts. tt),
    )))

pub returns-in_err-weeks-clause-reads : goal.returns-in_err-weeks-clause-reads
returns-in_err-weeks-clause-reads g c =
    let ward = c.in_ok-ward.ward in
    let p = err_from_is_err_and c.from_residual-in_err-weeks.result c.from_residual-in_err-weeks.ensures.1 in
    rw (p.1, p.2)
    (went_on ward c.in_ok-ward.ensures.reads
    (stopped _ refl c.in_err-weeks.ensures.reads
    (λ weeks. (gives-none g.S.Source ward.scenario (length weeks) c.args.given_file.now, λ facts. tt))))

pub returns-in_err-given-clause-reads : goal.returns-in_err-given-clause-reads
returns-in_err-given-clause-reads g c =
    let count : c.len-count.result ≡ length c.in_ok-weeks.weeks.items = c.len-count.ensures ∙ c.in_ok-weeks.weeks.ok.0 in
    let p = err_from_is_err_and c.from_residual-in_err-given.result c.from_residual-in_err-given.ensures.1 in
    rw (p.1, p.2)
    (went_on c.in_ok-ward.ward c.in_ok-ward.ensures.reads
    (went_on c.in_ok-weeks.weeks.items c.in_ok-weeks.ensures.reads
    (stopped _ refl (_, refl, given-for-all _ _ _ count c.in_err-given.ensures.reads) (λ facts. tt))))

pub returns-clause-reads : goal.returns-clause-reads
returns-clause-reads g c =
    let count : c.len-count.result ≡ length c.in_ok-weeks.weeks.items = c.len-count.ensures ∙ c.in_ok-weeks.weeks.ok.0 in
    went_on c.in_ok-ward.ward c.in_ok-ward.ensures.reads
    (went_on c.in_ok-weeks.weeks.items c.in_ok-weeks.ensures.reads
    (went_on _ (given-for-all _ _ _ count c.in_ok-given.ensures.reads) refl))

pub returns-clause-fits : goal.returns-clause-fits
returns-clause-fits g c =
    let count : c.len-count.result ≡ length c.in_ok-weeks.weeks.items = c.len-count.ensures ∙ c.in_ok-weeks.weeks.ok.0 in
    record {
      weeks = c.in_ok-weeks.ensures.weeks;
      given = rw count at c.in_ok-given.ensures.shape;
      few = c.in_ok-given.ensures.few;
      lines = c.in_ok-given.ensures.lines;
    }

pub overflow_cast-count : goal.overflow_cast-count
overflow_cast-count g c =
    let period = is-period c.args.early c.in_ok-ward.ward c.in_ok-weeks.weeks.items c.in_ok-weeks.ensures.weeks in
    omega (arith, c.len-count.ensures, c.in_ok-weeks.weeks.ok.0, period.count)
