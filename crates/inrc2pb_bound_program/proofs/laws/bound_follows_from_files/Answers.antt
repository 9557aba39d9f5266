use Rattle.byte_ports.specs.Openers.{opener_at}
use Rattle.inrc2pb_frame.specs.Exits.{printer_state}
use Rattle.rota_pb.specs.RunPorts.{writer_of}
use Rattle.inrc2pb_bound_program.proofs.PeriodEnds.{follows}
use Rattle.inrc2pb_bound_program.proofs.laws.bound_follows_from_files.Goals as goal

pub returns : goal.returns
returns g c = λ words files_old files_new output_old output_new help_old help_new errors_old errors_new status.
    follows (opener_at g.O.Opens g.O.File.Source files_old files_new) (writer_of g.W.Target output_old output_new)
    (printer_state g.H.Printer help_old help_new) (printer_state g.E.Printer errors_old errors_new) status words
