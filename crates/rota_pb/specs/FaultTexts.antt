-- The message for the fault of a run.
use Rattle.std.specs.Prelude.{ℕ, List, ◌++◌, codes, decimal}
use Rattle.rota_pb.specs.Imports.{Answer, Breaks, Fault, File, Memory, NoRoster, Read, Unmet, Write}
use Rattle.rota_core.specs.FaultTexts.{file_fault_text}
use Rattle.rota_core.specs.Rules.{rule_name}
use Rattle.solver_text.specs.FaultTexts.{answer_fault_text}
use Rattle.solver_text.specs.Status.{status_words}

-- the message for the fault of a run
abbrev pub fault_text : Fault → List ℕ
fault_text (File fault) = file_fault_text fault
fault_text Memory = codes "out of memory"
fault_text Write = codes "write failed"
fault_text Read = codes "read failed"
fault_text (Answer fault) = codes "answer: " ++ answer_fault_text fault
fault_text (NoRoster status) = codes "solver found no roster: " ++ status_words status
fault_text (Unmet number) = codes "constraint " ++ (decimal number ++ codes " is not satisfied")
fault_text (Breaks rule) = codes "roster breaks " ++ rule_name rule
