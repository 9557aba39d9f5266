use Rattle.std.proofs.Common.{refl}
use Rattle.std.specs.Prelude.{codes}
use Rattle.rota_pb.specs.Report.{cost_lines, last_o_line, number_line}
use Rattle.text_sink.proofs.LogicWords.{puts_exit, puts_same, puts_stop, puts_then}
use Rattle.rota_pb.proofs.report.put_report.Goals as goal

pub returns-in_err-put_status_line-clause-takes : goal.returns-in_err-put_status_line-clause-takes
returns-in_err-put_status_line-clause-takes g c =
    let decoded = c.args.decoded.now in
    puts_exit _ c.from_residual.ensures.0 (puts_same (refl)
    (puts_stop (last_o_line decoded.last_o)
    (puts_stop (cost_lines decoded.costs)
    (puts_stop (number_line (codes "penalty") decoded.penalty)
    (puts_stop (number_line (codes "objective") decoded.objective)
    c.in_err-put_status_line.ensures.takes)))))

pub returns-in_err-put_number_line-clause-takes : goal.returns-in_err-put_number_line-clause-takes
returns-in_err-put_number_line-clause-takes g c =
    let decoded = c.args.decoded.now in
    puts_exit _ c.from_residual-in_err-put_number_line.ensures.0 (puts_same (refl)
    (puts_stop (last_o_line decoded.last_o)
    (puts_stop (cost_lines decoded.costs)
    (puts_stop (number_line (codes "penalty") decoded.penalty)
    (puts_then c.in_ok-put_status_line.ensures.takes
    c.in_err-put_number_line.ensures)))))

pub returns-in_err-put_number_line-2-clause-takes : goal.returns-in_err-put_number_line-2-clause-takes
returns-in_err-put_number_line-2-clause-takes g c =
    let decoded = c.args.decoded.now in
    puts_exit _ c.from_residual-in_err-put_number_line-2.ensures.0 (puts_same (refl)
    (puts_stop (last_o_line decoded.last_o)
    (puts_stop (cost_lines decoded.costs)
    (puts_then (puts_then c.in_ok-put_status_line.ensures.takes c.in_ok-put_number_line.ensures)
    c.in_err-put_number_line-2.ensures))))

pub returns-in_err-put_cost_lines-clause-takes : goal.returns-in_err-put_cost_lines-clause-takes
returns-in_err-put_cost_lines-clause-takes g c =
    puts_exit _ c.from_residual-in_err-put_cost_lines.ensures.0 (puts_same (refl)
    (puts_stop (last_o_line c.args.decoded.now.last_o)
    (puts_then (puts_then (puts_then c.in_ok-put_status_line.ensures.takes c.in_ok-put_number_line.ensures)
    c.in_ok-put_number_line-2.ensures)
    c.in_err-put_cost_lines.ensures)))

pub returns-clause-takes : goal.returns-clause-takes
returns-clause-takes g c =
    puts_same (refl)
    (puts_then (puts_then (puts_then (puts_then c.in_ok-put_status_line.ensures.takes c.in_ok-put_number_line.ensures)
    c.in_ok-put_number_line-2.ensures)
    c.in_ok-put_cost_lines.ensures)
    c.put_last_o_line.ensures)
