use Rattle.std.proofs.Common.{◌∷◌}
use Rattle.rota_certificate.specs.CertificateBounds.{lower_bound}
use Rattle.rota_certificate.proofs.CertificateSoundness.{lower_bound-sound}
use Rattle.rota_certificate.proofs.PeriodProofs.{are-optimal}
use Rattle.rota_certificate.proofs.laws.certificate_bound_proves_optimality.Goals as goal

pub returns : goal.returns
returns c = λ first later given certificate evidence.
    are-optimal (first ∷ later) given (lower_bound (first ∷ later) given certificate)
    (lower_bound-sound first later given certificate evidence)
