use Rattle.rota_judge.proofs.Common.{exits, problem_of, set_of}
use Rattle.rota_judge.proofs.ExtensionTruths.{truths-parts}
use Rattle.rota_items.proofs.ItemLemmas.{Refused-before, Takes-then}
use Rattle.rota_judge.proofs.literals.extension.drive_extension.Goals as goal

pub returns-in_err-emit_assigned-clause-takes : goal.returns-in_err-emit_assigned-clause-takes
returns-in_err-emit_assigned-clause-takes g c =
    exits _ _ _ _ c.from_residual.ensures.0
    (rw (← truths-parts (problem_of c.args.instance.now) (set_of c.args.roster.now)) (Refused-before _ _ _ _ c.in_err-emit_assigned.ensures.takes))

pub returns-clause-takes : goal.returns-clause-takes
returns-clause-takes g c =
    rw (← truths-parts (problem_of c.args.instance.now) (set_of c.args.roster.now))
    (Takes-then _ _ _ _ _ _ c.in_ok-emit_assigned.ensures.takes c.emit_slack_values.ensures)
