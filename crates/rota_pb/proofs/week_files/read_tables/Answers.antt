use Rattle.std.proofs.Common.{refl}
use Rattle.rota_pb.specs.Steps.{went_on}
use Rattle.rota_pb.proofs.Steps.{stopped_by}
use Rattle.rota_pb.proofs.week_files.read_tables.Goals as goal

pub returns-in_err-scenario : goal.returns-in_err-scenario
returns-in_err-scenario g c = stopped_by _ _ c.from_residual.ensures.1 c.in_err-scenario.ensures (λ s. (refl, λ h. (refl, λ w. tt)))

pub returns-in_err-history : goal.returns-in_err-history
returns-in_err-history g c =
    went_on c.in_ok-scenario.scenario c.in_ok-scenario.ensures
    (stopped_by _ _ c.from_residual-in_err-history.ensures.1 c.in_err-history.ensures.reads (λ h. (refl, λ w. tt)))

pub returns-in_err-week : goal.returns-in_err-week
returns-in_err-week g c =
    went_on c.in_ok-scenario.scenario c.in_ok-scenario.ensures
    (went_on c.in_ok-history.history c.in_ok-history.ensures.reads
    (stopped_by _ _ c.from_residual-in_err-week.ensures.1 c.in_err-week.ensures.reads (λ w. tt)))

pub returns : goal.returns
returns g c =
    went_on c.in_ok-scenario.scenario c.in_ok-scenario.ensures
    (went_on c.in_ok-history.history c.in_ok-history.ensures.reads (went_on c.in_ok-week.week c.in_ok-week.ensures.reads c.join.ensures))
