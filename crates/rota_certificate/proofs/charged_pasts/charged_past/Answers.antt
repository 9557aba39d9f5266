use Rattle.std.proofs.Common.{◌∙◌, ◌-◌, arith, sym}
use Rattle.rota_core.specs.Sizes.{DAYS}
use Rattle.rota_certificate.specs.Stages.{days_before}
use Rattle.rota_certificate.specs.StageFields.{stage_of}
use Rattle.rota_certificate.proofs.FreeTotals.{stage-free}
use Rattle.rota_certificate.proofs.StageLimits.{stage-equivalent}
use Rattle.rota_certificate.proofs.charged_pasts.charged_past.Goals as goal

pub returns-then-stage-clause-same : goal.returns-then-stage-clause-same
returns-then-stage-clause-same c =
    let stage = stage_of c.stage.inside in
    rw (← c.stage.view_is)
    (sym (stage-equivalent stage c.stage.invariant c.args.days_left c.args.past c.capped-past.result c.capped-past.ensures.equivalent))

pub returns-else-stage-clause-same : goal.returns-else-stage-clause-same
returns-else-stage-clause-same c =
    let stage = stage_of c.stage.inside in
    rw (← c.stage.view_is)
    (stage-free stage c.args.days_left c.capped-past.result c.stage.invariant c.if-stage.false ∙
    sym (stage-equivalent stage c.stage.invariant c.args.days_left c.args.past c.capped-past.result c.capped-past.ensures.equivalent))

pub returns-then-stage-clause-near : goal.returns-then-stage-clause-near
returns-then-stage-clause-near c =
    let day = days_before (stage_of c.stage.inside) (DAYS - c.args.days_left) in
    rw (← c.stage.view_is) (c.capped-past.ensures.near day (rw (← c.stage.view_is) at c.requires))

pub returns-else-stage-clause-near : goal.returns-else-stage-clause-near
returns-else-stage-clause-near c =
    let day = days_before (stage_of c.stage.inside) (DAYS - c.args.days_left) in
    let near = c.capped-past.ensures.near day (rw (← c.stage.view_is) at c.requires) in
    rw (← c.stage.view_is)
    (record {
      assignments = omega arith;
      weekends = omega arith;
      last = near.last;
      shift_run = near.shift_run;
      work_run = near.work_run;
      off_run = near.off_run;
    })
