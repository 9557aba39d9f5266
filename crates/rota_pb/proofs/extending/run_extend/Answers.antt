use Rattle.std.proofs.Common.{refl}
use Rattle.rota_pb.specs.Extending.{extend_run}
use Rattle.rota_pb.specs.Steps.{went_on}
use Rattle.rota_pb.proofs.Steps.{stopped_by}
use Rattle.rota_pb.proofs.extending.run_extend.Goals as goal

pub returns-in_err-instance : goal.returns-in_err-instance
unfolding extend_run
returns-in_err-instance g c = record {
  outcome =
      stopped_by _ _ c.from_residual.ensures.1 c.in_err-instance.ensures (λ tables. (refl, λ roster. (tt, λ kept. refl)));
}

pub returns-in_err-roster : goal.returns-in_err-roster
unfolding extend_run
returns-in_err-roster g c = record {
  outcome =
      went_on c.in_ok-instance.instance c.in_ok-instance.ensures
      (stopped_by _ _ c.from_residual-in_err-roster.ensures.1 c.in_err-roster.ensures (λ roster. (tt, λ kept. refl)));
}

pub returns : goal.returns
unfolding extend_run
returns g c = record {
  outcome =
      went_on c.in_ok-instance.instance c.in_ok-instance.ensures
      (went_on c.in_ok-roster.roster c.in_ok-roster.ensures c.extend.ensures);
}
