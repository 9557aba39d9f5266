use Rattle.std.proofs.Common.{◌≡◌, rules}
use Rattle.std.specs.Prelude.{sum}
use Rattle.rota_core.specs.InstanceTables.{problem_of}
use Rattle.rota_judge.specs.Verdicts.{IsMet}
use Rattle.rota_judge.specs.Truths.{truth_of}
use Rattle.rota_pb.specs.Decoded.{FindsRoster}
use Rattle.rota_pb.proofs.DecodedAnswer.{is_decoded}
use Rattle.rota_pb.proofs.decoded.decode.Goals as goal

pub returns-in-Some-clause-fault : goal.returns-in-Some-clause-fault
returns-in-Some-clause-fault c =
    let settles = rw c.of_bits.ensures at c.verdict_of-verdict.ensures.model in
    let judges = rw c.of_bits.ensures at c.verdict_of-verdict.ensures.judges in
    search rules

pub returns-clause-decoded : goal.returns-clause-decoded
returns-clause-decoded c =
    let settles = rw c.of_bits.ensures at c.verdict_of-verdict.ensures.model in
    let judges = rw c.of_bits.ensures at c.verdict_of-verdict.ensures.judges in
    let verdict = c.verdict_of-verdict.result in
    let finds : FindsRoster c.args.solved.status = search rules in
    let met : IsMet (problem_of c.args.instance.now) (truth_of c.args.solved.bits) verdict = search rules in
    let total : c.sum-penalty.result ≡ sum verdict.costs = search rules in
    let problem = problem_of c.args.instance.now in
    is_decoded problem (c.alike_rosters_cost_the_same.ensures problem)
    c.args.solved verdict c.of_bits-2.result _ finds met
    judges.objective c.of_bits-2.ensures.shape c.of_bits-2.ensures.cells total
