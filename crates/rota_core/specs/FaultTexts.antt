-- The messages for the faults of a file.
use Rattle.std.specs.Prelude.{ℕ, nat_eq, if◌then◌else◌, List, ◌++◌, codes, decimal}
use Rattle.rota_core.specs.declared.fault.FileFault.{FileFault}
use Rattle.rota_core.specs.declared.fault.FileFault.TheVariants.{Bad, Memory}
use Rattle.rota_core.specs.declared.fault.FileName.{FileName}
use Rattle.rota_core.specs.declared.fault.FileName.TheVariants.{Scenario, History, Week, Solution, Fixed, Certificate, Facts}
use Rattle.rota_core.specs.declared.fault.Kind.{Kind}
use Rattle.rota_core.specs.declared.fault.Kind.TheVariants.{Ended, OtherWord, NoNumber, Limit, Unknown, Repeated, Trailing, LateWeek}

-- the name of a file in a message
abbrev pub file_text : FileName → List ℕ
file_text Scenario = codes "scenario"
file_text History = codes "history"
file_text Week = codes "week"
file_text Solution = codes "solution"
file_text Fixed = codes "fix"
file_text Certificate = codes "certificate"
file_text Facts = codes "facts"

-- the kind of a fault in a message
abbrev pub kind_text : Kind → List ℕ
kind_text Ended = codes "end of file"
kind_text OtherWord = codes "another word expected"
kind_text NoNumber = codes "number expected"
kind_text Limit = codes "out of limits"
kind_text Unknown = codes "unknown name"
kind_text Repeated = codes "repeated"
kind_text Trailing = codes "text after the end"
kind_text LateWeek = codes "week not below WEEKS"

-- the file, the line and the kind of the fault, without a line if it is 0 (the whole file); or "out of memory"
abbrev pub file_fault_text : FileFault → List ℕ
file_fault_text (Bad kind file line) =
    if nat_eq line 0 then file_text file ++ (codes ": " ++ kind_text kind)
    else file_text file ++ (codes " line " ++ (decimal line ++ (codes ": " ++ kind_text kind)))
file_fault_text Memory = codes "out of memory"
