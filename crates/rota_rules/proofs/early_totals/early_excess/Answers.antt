use Rattle.std.proofs.Common.{arith}
use Rattle.std.proofs.lemmas.Grind.{common_steps}
use Rattle.rota_rules.proofs.EarlyCharges.{early_charges-are}
use Rattle.rota_rules.proofs.early_totals.early_excess.Goals as goal

pub returns-clause-weeks : goal.returns-clause-weeks
returns-clause-weeks c = grind (arith, common_steps, early_charges-are c.args.limit c.args.start c.args.steps.now)
