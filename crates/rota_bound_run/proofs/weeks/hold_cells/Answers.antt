use Rattle.rota_pb.specs.Steps.{went_on}
use Rattle.rota_pb.proofs.Steps.{stopped_by}
use Rattle.rota_bound_run.proofs.weeks.hold_cells.Goals as goal

pub returns-in_err-held-in-Some-clause-holds : goal.returns-in_err-held-in-Some-clause-holds
returns-in_err-held-in-Some-clause-holds g c =
    rw c.in-Some.is (stopped_by _ _ c.from_residual.ensures.1 c.in_err-held-in-Some.ensures (λ roster. tt))

pub returns-in_ok-held-in-Some-clause-holds : goal.returns-in_ok-held-in-Some-clause-holds
returns-in_ok-held-in-Some-clause-holds g c =
    rw c.in-Some.is (went_on c.in_ok-held-in-Some.held c.in_ok-held-in-Some.ensures c.hold.ensures.holds)
