use Rattle.rota_certificate.proofs.CertificateSoundness.{lower_bound-sound}
use Rattle.rota_certificate.proofs.laws.certificate_bound_is_sound.Goals as goal

pub returns : goal.returns
returns c = λ first later given certificate evidence. lower_bound-sound first later given certificate evidence
