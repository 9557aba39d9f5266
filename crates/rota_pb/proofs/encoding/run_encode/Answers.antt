use Rattle.std.proofs.Common.{refl}
use Rattle.rota_core.specs.InstanceTables.{problem_of}
use Rattle.rota_items.specs.WeekModel.{model_of}
use Rattle.opb_text.specs.ModelText.{opb_text}
use Rattle.rota_pb.specs.Encoding.{encode_run}
use Rattle.rota_pb.specs.Steps.{went_on}
use Rattle.rota_pb.proofs.Steps.{stopped_by}
use Rattle.rota_pb.proofs.encoding.run_encode.Goals as goal

pub returns-in_err-instance : goal.returns-in_err-instance
unfolding encode_run
returns-in_err-instance g c = record {
  outcome = stopped_by _ _ c.from_residual.ensures.1 c.in_err-instance.ensures (λ tables. (tt, λ text. refl));
}

pub returns : goal.returns
unfolding encode_run
returns g c =
    let problem = problem_of c.in_ok-instance.instance in
    record {
      outcome =
          went_on c.in_ok-instance.instance c.in_ok-instance.ensures
          (went_on (opb_text (model_of problem)) (c.model_text_means_the_rules.ensures problem) c.encode.ensures);
    }
