use Rattle.rota_judge.proofs.Common.{numbered_list, rules}
use Rattle.rota_judge.proofs.SlackValues.{slacks_given}
use Rattle.rota_judge.proofs.literals.slack_values.emit_slack_values.Goals as goal

pub returns : goal.returns
unfolding numbered_list
returns g c =
    slacks_given c.args.instance.now c.args.roster.now g.T.LiteralTaker _ c.visit_soft_items.new.taker (λ it. it.taker.ghost_name)
    (λ it. it.taker.now) (λ it. it.judge.now) c.of_roster-judge.ensures c.requires.limits c.visit_soft_items.result _ (search rules)
    c.visit_soft_items.ensures
