use Rattle.std.proofs.Common.{◌≡◌, ℕ, List, ap, sym, ◌∙◌, arith, drop, subst}
use Rattle.rota_certificate.specs.KnownCosts.{first_rebate}
use Rattle.rota_certificate.specs.NurseBounds.{LeafWeek}
use Rattle.rota_certificate.specs.Stages.{IsStage, StageTables, all_of, terms_of, week_of}
use Rattle.rota_certificate.proofs.LeastCosts.{allowed_rebate-small}
use Rattle.rota_certificate.proofs.nurses.known_rebate.Goals as goal

pub returns-in-Some : goal.returns-in-Some
returns-in-Some c =
    let stage = c.args.stage.now in
    let at : IsStage stage = subst IsStage c.stage.view_is c.stage.invariant in
    let week : c.stage.inside.week ≡ stage.week = ap (λ (s : StageTables). s.week) c.stage.view_is in
    let found = c.in-Some.ensures (terms_of stage) (all_of stage) stage.nurse c.requires.right ∙
    ap (λ (i : ℕ). first_rebate (drop i (all_of stage)) stage.nurse c.args.day c.args.choice) week ∙
    ap (λ (weeks : List LeafWeek). first_rebate weeks stage.nurse c.args.day c.args.choice) at.at in
    record {
      found = found;
      small = omega (arith, found, allowed_rebate-small (week_of stage) stage.nurse c.args.day c.args.choice);
      right = c.requires.right;
    }

pub returns : goal.returns
returns c =
    let stage = c.args.stage.now in
    let at : IsStage stage = subst IsStage c.stage.view_is c.stage.invariant in
    let week : c.stage.inside.week ≡ stage.week = ap (λ (s : StageTables). s.week) c.stage.view_is in
    record {
      found = c.allowed_rebate-rebate.ensures.rebate;
      small = c.allowed_rebate-rebate.ensures.small;
      right = c.keep_rebate.ensures (terms_of stage) (all_of stage) stage.nurse c.requires.right
          (c.allowed_rebate-rebate.ensures.rebate ∙
          sym (ap (λ (i : ℕ). first_rebate (drop i (all_of stage)) stage.nurse c.args.day c.args.choice) week ∙
          ap (λ (weeks : List LeafWeek). first_rebate weeks stage.nurse c.args.day c.args.choice) at.at));
    }
