use Rattle.rota_pb.specs.Steps.{went_on}
use Rattle.rota_pb.proofs.Steps.{stopped_by}
use Rattle.rota_bound_run.proofs.proof_file.read_proof.Goals as goal

pub returns-in_err-certificate-in-Some-clause-reads : goal.returns-in_err-certificate-in-Some-clause-reads
returns-in_err-certificate-in-Some-clause-reads g c =
    rw c.in-Some.is (stopped_by _ _ c.from_residual.ensures.1 c.in_err-certificate-in-Some.ensures (λ found. tt))

pub returns-in_ok-certificate-in-Some-clause-reads : goal.returns-in_ok-certificate-in-Some-clause-reads
returns-in_ok-certificate-in-Some-clause-reads g c =
    rw c.in-Some.is (went_on c.in_ok-certificate-in-Some.certificate c.in_ok-certificate-in-Some.ensures c.check_paths.ensures)
