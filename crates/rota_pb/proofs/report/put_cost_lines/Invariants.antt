use Rattle.std.proofs.Common.{Ok}
use Rattle.rota_core.specs.Lists.{concat_below}
use Rattle.rota_pb.specs.Report.{cost_line}
use Rattle.text_sink.specs.Sink.{PutsText}
use Rattle.rota_pb.proofs.report.put_cost_lines.Given as goal

abbrev pub invariant-loop-index : goal.invariant-loop-index
invariant-loop-index g l =
    let w = l.fn in
    PutsText w.sink (Ok tt) (concat_below l.index (cost_line w.costs)) l.sink
