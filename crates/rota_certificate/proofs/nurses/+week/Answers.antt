use Rattle.std.proofs.Common.{rules, ℕ, List, ap, sym, ◌≡◌, ◌<◌, ◌∙◌, arith, subst, ◌+◌, ◌-◌, ◌*◌, drop, length, slice_index_or}
use Rattle.rota_core.specs.Sizes.{DAYS, Numbers}
use Rattle.rota_certificate.specs.LentLeaves.{LentTables}
use Rattle.rota_certificate.specs.Nearness.{IsNear}
use Rattle.rota_certificate.specs.NurseBounds.{LeafWeek, least_left, rest_after}
use Rattle.rota_certificate.specs.Stages.{IsStage, StageTables, all_of, days_before, least_after, terms_of, week_of}
use Rattle.rota_certificate.specs.StageFields.{stage_of}
use Rattle.rota_certificate.proofs.LeafStages.{drop-end, lent-at, next-is, next-left, next-numbers}
use Rattle.rota_certificate.proofs.LeastCosts.{least_days-at_end, least_days-is, least_days-small}
use Rattle.rota_certificate.proofs.Tables.{near-more}
use Rattle.rota_certificate.proofs.nurses.+week.Goals as goal

pub least_in-returns-then-days_left-eq0 : goal.least_in-returns-then-days_left-eq0
least_in-returns-then-days_left-eq0 t c =
    let stage = c.args.stage.now in
    record {
      found = c.least_after.ensures.found ∙
          least_days-at_end (terms_of stage) (week_of stage) stage.nurse (least_after stage) c.args.days_left c.args.past c.if-days_left-eq0.true;
      small = c.least_after.ensures.small;
      right = c.least_after.ensures.right;
    }

pub least_in-returns-in-Some : goal.least_in-returns-in-Some
least_in-returns-in-Some t c =
    let stage = c.args.stage.now in
    let at : IsStage stage = subst IsStage c.stage.view_is c.stage.invariant in
    let week : c.stage.inside.week ≡ stage.week = ap (λ (s : StageTables). s.week) c.stage.view_is in
    let charged = c.charged_past-charged.result in
    let found = c.in-Some.ensures (terms_of stage) (all_of stage) stage.nurse c.requires.right ∙
    ap (λ (i : ℕ). least_left (terms_of stage) (drop i (all_of stage)) stage.nurse c.args.days_left charged) week ∙
    ap (λ (weeks : List LeafWeek). least_left (terms_of stage) weeks stage.nurse c.args.days_left charged) at.at ∙
    c.charged_past-charged.ensures.same in
    record {
      found = found;
      small = omega (
        arith,
        found,
        least_days-small (terms_of stage) (week_of stage) stage.nurse (least_after stage) c.args.days_left c.args.past
            (omega (arith, c.if-days_left-eq0.false)),
      );
      right = c.requires.right;
    }

pub least_in-returns : goal.least_in-returns
least_in-returns t c =
    let stage = c.args.stage.now in
    let at : IsStage stage = subst IsStage c.stage.view_is c.stage.invariant in
    let week : c.stage.inside.week ≡ stage.week = ap (λ (s : StageTables). s.week) c.stage.view_is in
    let charged = c.charged_past-charged.result in
    let least = c.least_choice_in-cost.ensures.found ∙
    least_days-is (terms_of stage) (week_of stage) stage.nurse (least_after stage) c.args.days_left charged
    (omega (arith, c.if-days_left-eq0.false)) c.requires.within in
    record {
      found = least ∙ c.charged_past-charged.ensures.same;
      small = c.least_choice_in-cost.ensures.small;
      right = c.keep_cost.ensures (terms_of stage) (all_of stage) stage.nurse c.least_choice_in-cost.ensures.right
          (least ∙
          sym (ap (λ (i : ℕ). least_left (terms_of stage) (drop i (all_of stage)) stage.nurse c.args.days_left charged) week ∙
          ap (λ (weeks : List LeafWeek). least_left (terms_of stage) weeks stage.nurse c.args.days_left charged) at.at));
    }

pub least_after-returns-then-week-leaf : goal.least_after-returns-then-week-leaf
least_after-returns-then-week-leaf t c =
    let stage = stage_of c.stage.inside in
    let same : c.leaf.inside.weeks.now ≡ stage.leaf.weeks = ap (λ (leaf : LentTables). leaf.weeks) c.leaf.view_is in
    let cost = rw (← c.stage.view_is) at c.end_cost.ensures.cost in
    let right = rw (← c.stage.view_is) at c.requires.right in
    rw (← c.stage.view_is)
    (record {
      found = cost ∙
          sym (ap (λ (weeks : List LeafWeek). rest_after (terms_of stage) (week_of stage).week weeks stage.nurse c.args.past)
          (drop-end stage.leaf (stage.week + 1) (rw same at c.if-week-leaf.true)));
      small = c.end_cost.ensures.small;
      right = right;
    })

pub least_after-invariant_of-next : goal.least_after-invariant_of-next
least_after-invariant_of-next t c =
    let stage = stage_of c.stage.inside in
    let i = stage.week + 1 in
    let weeks = c.leaf.inside.weeks.now in
    let same : weeks ≡ stage.leaf.weeks = ap (λ (leaf : LentTables). leaf.weeks) c.leaf.view_is in
    let next = slice_index_or weeks i c.index-leaf-week.result in
    next-is stage next (lent-at stage.leaf weeks i c.index-leaf-week.result same c.index-leaf-week.is) c.stage.invariant
    (rw same at c.if-week-leaf.false)

pub least_after-least_in-requires : goal.least_after-least_in-requires
least_after-least_in-requires t c =
    let stage = stage_of c.stage.inside in
    let i = stage.week + 1 in
    let weeks = c.leaf.inside.weeks.now in
    let same : weeks ≡ stage.leaf.weeks = ap (λ (leaf : LentTables). leaf.weeks) c.leaf.view_is in
    let next = slice_index_or weeks i c.index-leaf-week.result in
    let at = lent-at stage.leaf weeks i c.index-leaf-week.result same c.index-leaf-week.is in
    let more : i < length stage.leaf.weeks = rw same at c.if-week-leaf.false in
    let right = rw (← c.stage.view_is) at c.requires.right in
    let near_before = rw (← c.stage.view_is) at c.requires.near in
    let near : IsNear (week_of stage).week.shifts (DAYS * i + (DAYS - DAYS)) c.args.past =
    near-more (week_of stage).week.shifts (days_before stage (DAYS - 0)) _ c.args.past (omega arith) near_before in (
      search rules,
      record {
        right = right;
        within = omega arith;
        near = subst (λ (numbers : Numbers). IsNear numbers.shifts (DAYS * i + (DAYS - DAYS)) c.args.past)
            (sym (next-numbers stage next at c.stage.invariant more)) near;
      },
    )

pub least_after-returns : goal.least_after-returns
least_after-returns t c =
    let stage = stage_of c.stage.inside in
    let i = stage.week + 1 in
    let weeks = c.leaf.inside.weeks.now in
    let same : weeks ≡ stage.leaf.weeks = ap (λ (leaf : LentTables). leaf.weeks) c.leaf.view_is in
    let following = next-left stage (slice_index_or weeks i c.index-leaf-week.result)
    (lent-at stage.leaf weeks i c.index-leaf-week.result same c.index-leaf-week.is) c.stage.invariant (rw same at c.if-week-leaf.false) in
    rw (← c.stage.view_is)
    (record {
      found = c.least_in.ensures.found ∙
          sym (ap (λ (weeks : List LeafWeek). rest_after (terms_of stage) (week_of stage).week weeks stage.nurse c.args.past) following);
      small = c.least_in.ensures.small;
      right = c.least_in.ensures.right;
    })
