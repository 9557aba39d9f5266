use Rattle.std.proofs.Common.{◌≡◌, Bool, ap, ◌||◌, ◌∙◌, sym}
use Rattle.rota_certificate.specs.LentLeaves.{LentTables}
use Rattle.rota_certificate.specs.NurseBounds.{LeafWeek}
use Rattle.rota_certificate.proofs.LeafStages.{any-end, any-fails, any-passes}
use Rattle.rota_certificate.proofs.stages.charge_totals.Goals as goal

abbrev test : LeafWeek → Bool
test one = one.week.is_early || one.week.is_last

pub returns-then-charges_totals : goal.returns-then-charges_totals
returns-then-charges_totals c =
    let same : c.leaf.inside.weeks.now ≡ c.args.leaf.now.weeks = ap (λ (leaf : LentTables). leaf.weeks) c.leaf.view_is in
    sym (any-passes test c.args.leaf.now c.loop-one.one-index c.one-item.result (rw same at c.loop-one-test.true)
    (rw same at c.one-item.is) (sym c.if-charges_totals.ensures)) ∙
    c.loop-one.invariant

pub loop-one-preserved : goal.loop-one-preserved
loop-one-preserved c =
    let same : c.leaf.inside.weeks.now ≡ c.args.leaf.now.weeks = ap (λ (leaf : LentTables). leaf.weeks) c.leaf.view_is in
    sym (any-fails test c.args.leaf.now c.loop-one.one-index c.one-item.result (rw same at c.loop-one-test.true)
    (rw same at c.one-item.is) (sym c.if-charges_totals.ensures)) ∙
    c.loop-one.invariant

pub returns : goal.returns
returns c =
    let same : c.leaf.inside.weeks.now ≡ c.args.leaf.now.weeks = ap (λ (leaf : LentTables). leaf.weeks) c.leaf.view_is in
    sym (any-end test c.args.leaf.now c.loop-one.one-index (rw same at c.loop-one-test.false)) ∙ c.loop-one.invariant
