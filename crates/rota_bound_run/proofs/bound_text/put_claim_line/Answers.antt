use Rattle.std.proofs.Common.{ap, ◌∙◌, rules}
use Rattle.text_sink.proofs.LogicWords.{puts_same}
use Rattle.rota_bound_run.specs.BoundText.{claim_line}
use Rattle.rota_bound_run.proofs.bound_text.put_claim_line.Goals as goal

pub returns-in-AtLeast-clause-takes : goal.returns-in-AtLeast-clause-takes
returns-in-AtLeast-clause-takes g c = puts_same (ap claim_line c.in-AtLeast.is ∙ search rules) c.put_all.ensures.takes

pub returns-in-Unknown-clause-takes : goal.returns-in-Unknown-clause-takes
returns-in-Unknown-clause-takes g c = puts_same (ap claim_line c.in-Unknown.is) c.put-in-Unknown.ensures.takes
