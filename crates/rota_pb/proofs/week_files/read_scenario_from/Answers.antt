use Rattle.std.proofs.lemmas.Result.{err_from_is_err_and}
use Rattle.rota_core.specs.declared.fault.FileName.TheVariants as names
use Rattle.rota_read.specs.ScenarioLayout.{scenario}
use Rattle.rota_pb.specs.RunPorts.{reader_of}
use Rattle.rota_pb.proofs.WholeFiles.{fails-check, is-read, stops-check}
use Rattle.rota_pb.proofs.week_files.read_scenario_from.Goals as goal

pub returns-in_err-text : goal.returns-in_err-text
returns-in_err-text g c =
    let p = err_from_is_err_and c.from_residual.result c.from_residual.ensures.1 in
    let reader = reader_of g.S.Source c.args.source.now c.read_file.new.source in
    rw (p.1, p.2) (stops-check names.Scenario scenario reader _ c.in_err-text.ensures.fault)

pub returns-in_err-read_scenario : goal.returns-in_err-read_scenario
returns-in_err-read_scenario g c =
    let p = err_from_is_err_and c.from_residual-in_err-read_scenario.result c.from_residual-in_err-read_scenario.ensures.1 in
    let reader = reader_of g.S.Source c.args.source.now c.read_file.new.source in
    rw (p.1, p.2)
    (fails-check names.Scenario scenario reader _ c.in_ok-text.ensures.read _
    (rw (← c.deref.ensures.value) c.in_err-read_scenario.ensures.fault))

pub returns : goal.returns
returns g c =
    is-read names.Scenario scenario (reader_of g.S.Source c.args.source.now c.read_file.new.source) _ c.in_ok-text.ensures.read _
    (rw (← c.deref.ensures.value) c.in_ok-read_scenario.ensures.spelled)
