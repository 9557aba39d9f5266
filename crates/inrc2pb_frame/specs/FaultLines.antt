-- The texts of the messages when a program ends. They are the outputs of `Display`.
use Rattle.std.specs.Prelude.{ℕ, List, ◌++◌, Option, None, Some, codes}
use Rattle.rota_pb.specs.PeriodFaultTexts.{period_fault_text}
use Rattle.rota_pb.specs.declared.period_fault.PeriodFault.{PeriodFault}
use Rattle.inrc2pb_frame.specs.declared.stop.Stop.{Stop}
use Rattle.inrc2pb_frame.specs.declared.stop.Stop.TheVariants as stops

-- the line of a fault, without its end, for the program with this name
abbrev pub fault_line : List ℕ → PeriodFault → List ℕ
fault_line program fault = program ++ codes ": " ++ period_fault_text fault

-- the message of the reason, if it is not clap's own
abbrev pub stop_text : List ℕ → Stop → Option (List ℕ)
stop_text program (stops.Shown text) = None
stop_text program (stops.Words text) = None
stop_text program (stops.Usage text) = Some (codes "error: " ++ text.now ++ codes "\n")
stop_text program (stops.Job fault) = Some (fault_line program fault ++ codes "\n")
