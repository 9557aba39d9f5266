use Rattle.rota_items.proofs.Common.{◌∙◌, arith, length-map, problem_of, instance-within_limits, numbered_row, numbered_rows, rule_rows}
use Rattle.rota_items.proofs.SlackBound.{rule_rows-few}
use Rattle.rota_items.proofs.RowTaking.{rows-counted}
use Rattle.rota_items.proofs.hard.row_counts.count_rule_rows.Goals as goal

pub returns : goal.returns
unfolding numbered_rows
returns c =
    let problem = problem_of c.args.instance.now in
    record {
      number = c.in-Ok.ensures.value_is ∙ rows-counted (numbered_rows problem (rule_rows problem)) 0 (omega arith) ∙
          omega (
            arith,
            length-map (rule_rows problem) (numbered_row problem),
            rule_rows-few problem (instance-within_limits c.args.instance.now c.requires.limits),
          );
    }
