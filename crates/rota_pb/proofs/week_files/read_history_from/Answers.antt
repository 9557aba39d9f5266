use Rattle.std.proofs.lemmas.Result.{err_from_is_err_and}
use Rattle.rota_core.specs.declared.fault.FileName.TheVariants as names
use Rattle.rota_read.specs.HistoryLayout.{history}
use Rattle.rota_pb.specs.RunPorts.{reader_of}
use Rattle.rota_pb.proofs.WholeFiles.{fails-check, stops-check}
use Rattle.rota_pb.proofs.week_files.read_history_from.Goals as goal

pub returns-in_err-text-clause-reads : goal.returns-in_err-text-clause-reads
returns-in_err-text-clause-reads g c =
    let p = err_from_is_err_and c.from_residual.result c.from_residual.ensures.1 in
    let reader = reader_of g.S.Source c.args.source.now c.read_file.new.source in
    rw (p.1, p.2) (stops-check names.History (history c.args.scenario.now) reader _ c.in_err-text.ensures.fault)

pub returns-in_err-read_history-clause-reads : goal.returns-in_err-read_history-clause-reads
returns-in_err-read_history-clause-reads g c =
    let p = err_from_is_err_and c.from_residual-in_err-read_history.result c.from_residual-in_err-read_history.ensures.1 in
    let reader = reader_of g.S.Source c.args.source.now c.read_file.new.source in
    rw (p.1, p.2)
    (fails-check names.History (history c.args.scenario.now) reader _ c.in_ok-text.ensures.read _
    (rw (← c.deref.ensures.value) c.in_err-read_history.ensures.fault))
