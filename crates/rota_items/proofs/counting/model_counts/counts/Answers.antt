use Rattle.rota_items.proofs.Common.{arith, problem_of}
use Rattle.rota_items.proofs.SlackBound.{length-constraints}
use Rattle.rota_items.proofs.counting.model_counts.counts.Goals as goal

pub returns-clause-constraints : goal.returns-clause-constraints
returns-clause-constraints c = omega (arith, length-constraints (problem_of c.args.instance.now))
