use Rattle.rota_items.proofs.Common.{arith, nat_tests, problem_of}
use Rattle.rota_items.proofs.ObjectiveTaking.{length-request_terms_on}
use Rattle.rota_items.proofs.rules.shift_off_requests.has_terms_on.Goals as goal

pub returns-then-requests-gt0 : goal.returns-then-requests-gt0
returns-then-requests-gt0 c =
    grind (arith, nat_tests, length-request_terms_on (problem_of c.args.instance.now) c.args.nurse c.args.day c.args.shift)

pub returns-else-requests-gt0 : goal.returns-else-requests-gt0
returns-else-requests-gt0 c =
    grind (arith, nat_tests, length-request_terms_on (problem_of c.args.instance.now) c.args.nurse c.args.day c.args.shift)
