use Rattle.rota_certificate.proofs.CertificateSoundness.{minimums-prove}
use Rattle.rota_certificate.proofs.laws.certificate_minimums_prove_that_no_plan_exists.Goals as goal

pub returns : goal.returns
returns c = λ first later given certificate evidence above.
    minimums-prove first later given certificate evidence above
