-- The stage of the fields that the search keeps.
use Rattle.rota_certificate.specs.Stages.{StageTables}
use Rattle.rota_certificate.specs.declared.stages.Stage.TheInside.{Inside}

-- the stage of these fields
abbrev pub stage_of : Inside → StageTables
stage_of fields = record {
  instance = fields.instance.now;
  prices = fields.prices.now;
  leaf = fields.leaf.now;
  week = fields.week;
  unit = fields.unit;
  nurse = fields.nurse;
  contract = fields.contract;
  tariff = fields.tariff;
  charged = fields.charged;
}
