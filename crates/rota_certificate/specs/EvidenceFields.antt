-- The evidence of the fields that the bound is computed from.
use Rattle.rota_certificate.specs.Evidence.{EvidenceTables}
use Rattle.rota_certificate.specs.declared.tree.Evidence.TheInside.{Inside}

-- the evidence of these fields
abbrev pub evidence_of : Inside → EvidenceTables
evidence_of fields = record {
  weeks = fields.weeks.now;
  given = fields.given.now;
  certificate = fields.certificate.now;
  rules = fields.rules;
}
