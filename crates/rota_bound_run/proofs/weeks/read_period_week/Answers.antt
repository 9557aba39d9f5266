use Rattle.rota_pb.specs.Steps.{went_on}
use Rattle.rota_pb.proofs.Steps.{stopped_by}
use Rattle.rota_bound_run.proofs.WeekSteps.{holds-none, is-week-at}
use Rattle.rota_bound_run.proofs.weeks.read_period_week.Goals as goal

pub returns-in_err-week-clause-reads : goal.returns-in_err-week-clause-reads
returns-in_err-week-clause-reads g c =
    stopped_by _ _ c.from_residual.ensures.1 c.in_err-week.ensures.reads
    (λ w. (tt, λ tables. holds-none g.S.Source tables c.args.files.now.fix))

pub returns-in_err-instance-clause-reads : goal.returns-in_err-instance-clause-reads
returns-in_err-instance-clause-reads g c =
    went_on c.in_ok-week.week c.in_ok-week.ensures.reads
    (stopped_by _ _ c.from_residual-in_err-instance.ensures.1 c.in_err-instance.ensures
    (λ tables. holds-none g.S.Source tables c.args.files.now.fix))

pub returns-clause-reads : goal.returns-clause-reads
returns-clause-reads g c =
    went_on c.in_ok-week.week c.in_ok-week.ensures.reads
    (went_on c.in_ok-instance.instance c.in_ok-instance.ensures c.hold_cells.ensures.holds)

pub returns-clause-week : goal.returns-clause-week
returns-clause-week g c =
    is-week-at c.args.early c.args.ward.now c.args.later c.in_ok-week.week c.in_ok-instance.instance c.hold_cells.result
    c.in_ok-instance.ensures.0 c.in_ok-instance.ensures.1 c.hold_cells.ensures.like
