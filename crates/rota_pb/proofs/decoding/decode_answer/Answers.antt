use Rattle.std.proofs.Common.{refl}
use Rattle.rota_pb.specs.Steps.{went_on}
use Rattle.rota_pb.proofs.Steps.{stopped_by}
use Rattle.rota_pb.proofs.decoding.decode_answer.Goals as goal

pub returns-in_err-solved : goal.returns-in_err-solved
returns-in_err-solved g c =
    stopped_by _ _ c.from_residual.ensures.1 (rw c.counts.ensures.variables at c.in_err-solved.ensures)
    (λ solved. (tt, λ decoded. (refl, λ sent. refl)))

pub returns-in_err-decoded : goal.returns-in_err-decoded
returns-in_err-decoded g c =
    went_on c.in_ok-solved.solved (rw c.counts.ensures.variables at c.in_ok-solved.ensures)
    (stopped_by _ _ c.from_residual-in_err-decoded.ensures.1 c.in_err-decoded.ensures.fault (λ decoded. (refl, λ sent. refl)))

pub returns-in_err-write_solution : goal.returns-in_err-write_solution
returns-in_err-write_solution g c =
    went_on c.in_ok-solved.solved (rw c.counts.ensures.variables at c.in_ok-solved.ensures)
    (went_on c.in_ok-decoded.decoded c.in_ok-decoded.ensures.decoded
    (stopped_by _ _ c.from_residual-in_err-write_solution.ensures.1 c.in_err-write_solution.ensures.sends (λ sent. refl)))

pub returns : goal.returns
returns g c =
    went_on c.in_ok-solved.solved (rw c.counts.ensures.variables at c.in_ok-solved.ensures)
    (went_on c.in_ok-decoded.decoded c.in_ok-decoded.ensures.decoded
    (went_on tt c.in_ok-write_solution.ensures.sends c.write_report.ensures))
