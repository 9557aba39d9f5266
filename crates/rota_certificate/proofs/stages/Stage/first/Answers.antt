use Rattle.std.proofs.Common.{◌≡◌, ap, subst, slice_index_or}
use Rattle.rota_certificate.specs.LentLeaves.{IsLeaf, LentTables}
use Rattle.rota_certificate.specs.Stages.{StageTables}
use Rattle.rota_certificate.proofs.LeafStages.{first-is, lent-at}
use Rattle.rota_certificate.proofs.stages.Stage.first.Goals as goal

pub invariant_of-result : goal.invariant_of-result
invariant_of-result c =
    let weeks = c.leaf.inside.weeks.now in
    let same : weeks ≡ c.args.leaf.now.weeks = ap (λ (leaf : LentTables). leaf.weeks) c.leaf.view_is in
    let first = slice_index_or weeks 0 c.index-leaf-0.result in
    let stage : StageTables = record {
      instance = first.instance.now;
      prices = first.prices.now;
      leaf = c.args.leaf.now;
      week = 0;
      unit = c.args.unit;
      nurse = c.args.nurse;
      contract = c.contract-contract.result;
      tariff = c.args.tariff;
      charged = c.charge_totals-charged.result;
    } in
    first-is stage first (lent-at c.args.leaf.now weeks 0 c.index-leaf-0.result same c.index-leaf-0.is)
    (subst IsLeaf c.leaf.view_is c.leaf.invariant) c.requires c.contract-contract.ensures c.charge_totals-charged.ensures
