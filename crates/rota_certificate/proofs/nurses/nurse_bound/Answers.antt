use Rattle.std.proofs.Common.{arith}
use Rattle.rota_certificate.specs.Stages.{all_of, days_before, terms_of, week_of}
use Rattle.rota_certificate.specs.StageFields.{stage_of}
use Rattle.rota_certificate.proofs.Tables.{near-more, near-past}
use Rattle.rota_certificate.proofs.nurses.nurse_bound.Goals as goal

pub least_in-requires : goal.least_in-requires
least_in-requires c =
    let stage = c.first-stage.result in
    let opened = stage_of c.stage.inside in
    record {
      right = c.forget.ensures (terms_of stage) (all_of stage) stage.nurse;
      within = omega arith;
      near = rw (← c.stage.view_is)
          (near-more (week_of opened).week.shifts 0 (days_before opened 0) c.past-past.result (omega arith)
          (near-past (week_of opened).week.shifts c.past-past.result c.past-past.ensures.within));
    }
