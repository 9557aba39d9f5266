use Rattle.std.proofs.Common.{refl}
use Rattle.rota_pb.specs.Decoding.{decode_run}
use Rattle.rota_pb.specs.Steps.{went_on}
use Rattle.rota_pb.proofs.Steps.{stopped_by}
use Rattle.rota_pb.proofs.decoding.run_decode.Goals as goal

pub returns-in_err-instance : goal.returns-in_err-instance
unfolding decode_run
returns-in_err-instance g c = record {
  outcome =
      stopped_by _ _ c.from_residual.ensures.1 c.in_err-instance.ensures
      (λ tables. (refl, λ solved. (tt, λ decoded. (refl, λ sent. refl))));
}

pub returns : goal.returns
unfolding decode_run
returns g c = record { outcome = went_on c.in_ok-instance.instance c.in_ok-instance.ensures c.decode_answer.ensures }
