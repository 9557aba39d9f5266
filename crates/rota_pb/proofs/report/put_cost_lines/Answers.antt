use Rattle.std.proofs.Common.{◌∙◌, arith}
use Rattle.rota_pb.proofs.SinkLoops.{bytes_join, loop_none, loop_more, loop_all, loop_exit}
use Rattle.rota_pb.specs.Report.{cost_lines}
use Rattle.rota_pb.proofs.report.put_cost_lines.Goals as goal

pub loop-index-init : goal.loop-index-init
loop-index-init g c = loop_none bytes_join _ _

pub returns-in_err-put_number_line : goal.returns-in_err-put_number_line
unfolding cost_lines
returns-in_err-put_number_line g c =
    loop_exit bytes_join _ _ _ _ c.from_residual.ensures.0 (omega arith) c.loop-index.invariant
    (rw (c.as_bytes.ensures.value ∙ c.name.ensures) at c.in_err-put_number_line.ensures)

pub loop-index-preserved : goal.loop-index-preserved
loop-index-preserved g c =
    loop_more bytes_join _ _ c.loop-index.invariant
    (rw (c.as_bytes.ensures.value ∙ c.name.ensures) at c.in_ok-put_number_line.ensures)

pub returns : goal.returns
unfolding cost_lines
returns g c = loop_all bytes_join _ _ _ (omega arith) c.loop-index.invariant
