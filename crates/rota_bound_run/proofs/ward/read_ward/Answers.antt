use Rattle.std.proofs.Common.{◌∙◌, ap, refl, rules}
use Rattle.rota_core.specs.WeekTables.{HistoryTables}
use Rattle.rota_pb.specs.Steps.{went_on}
use Rattle.rota_pb.proofs.Steps.{stopped_by}
use Rattle.rota_bound_run.proofs.ward.read_ward.Goals as goal

pub returns-in_err-scenario-clause-reads : goal.returns-in_err-scenario-clause-reads
returns-in_err-scenario-clause-reads g c =
    stopped_by _ _ c.from_residual.ensures.1 c.in_err-scenario.ensures (λ s. (refl, λ h. tt))

pub returns-in_err-history-clause-reads : goal.returns-in_err-history-clause-reads
returns-in_err-history-clause-reads g c =
    went_on c.in_ok-scenario.scenario c.in_ok-scenario.ensures
    (stopped_by _ _ c.from_residual-in_err-history.ensures.1 c.in_err-history.ensures.reads (λ h. tt))

pub returns-clause-reads : goal.returns-clause-reads
returns-clause-reads g c =
    went_on _ c.in_ok-scenario.ensures
    (went_on c.in_ok-history.history c.in_ok-history.ensures.reads (search rules))

pub returns-clause-ward : goal.returns-clause-ward
returns-clause-ward g c = record {
  fits = ap (λ (t : HistoryTables). t.numbers) c.into_parts.ensures.tables ∙ c.in_ok-history.ensures.fits;
  limits = rw c.into_parts.ensures.tables c.into_parts.ensures.within;
}
