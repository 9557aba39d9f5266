use Rattle.std.proofs.Common.{◌≡◌, ◌<◌, ◌≤◌, ap, arith, subst, List, length, slice_index_or}
use Rattle.rota_certificate.specs.LentLeaves.{LentTables}
use Rattle.rota_certificate.specs.declared.stages.LentWeek.{LentWeek}
use Rattle.rota_certificate.proofs.LeafStages.{lent-at}
use Rattle.rota_certificate.proofs.PlaceSteps.{places-end, places-more}
use Rattle.rota_certificate.proofs.places.leaf_place_bounds.Goals as goal

pub loop-week-preserved : goal.loop-week-preserved
loop-week-preserved c =
    let i = c.loop-week.week in
    let weeks = c.leaf.inside.weeks.now in
    let same : weeks ≡ c.args.leaf.now.weeks = ap (λ (leaf : LentTables). leaf.weeks) c.leaf.view_is in
    let one = slice_index_or weeks i c.index-leaf-week.result in
    let same_case : c.leaf.inside.case.now ≡ c.args.leaf.now.case = ap (λ (leaf : LentTables). leaf.case) c.leaf.view_is in
    let bounds = rw same_case at c.bounds_of_week-sum.ensures.bounds in
    let more = places-more c.args.unit c.args.leaf.now i one (subst (λ (all : List LentWeek). i < length all) same c.loop-week-test.true)
    (lent-at c.args.leaf.now weeks i c.index-leaf-week.result same c.index-leaf-week.is) in
    record {
      sum = omega (arith, c.loop-week.invariant.sum, bounds, more);
      small = omega (arith, c.loop-week.invariant.small, c.bounds_of_week-sum.ensures.small);
    }

pub returns-clause-bounds : goal.returns-clause-bounds
returns-clause-bounds c =
    let same : c.leaf.inside.weeks.now ≡ c.args.leaf.now.weeks = ap (λ (leaf : LentTables). leaf.weeks) c.leaf.view_is in
    let past : length c.args.leaf.now.weeks ≤ c.loop-week.week = rw same at c.loop-week-test.false in
    omega (arith, c.loop-week.invariant.sum, places-end c.args.unit c.args.leaf.now c.loop-week.week past)
