-- The files that a decoding run reads and writes.
use Rattle.std.specs.Prelude.{ℕ}
use Rattle.rota_pb.specs.Imports.{Choice, InstanceTables, set_of, problem_of}
use Rattle.rota_items.specs.WeekModel.{model_of}
use Rattle.rota_read.specs.SolutionText.{solution_text}
use Rattle.rota_pb.specs.AnswerPieces.{read_answer}
use Rattle.rota_pb.specs.Decoded.{find_roster}
use Rattle.rota_pb.specs.RunPorts.{Reader, WeekReaders, Writer}
use Rattle.rota_pb.specs.Report.{report_text}
use Rattle.rota_pb.specs.Steps.{Step, ◌>>=◌, send}
use Rattle.rota_pb.specs.StepsInTurn.{◌>>◌}
use Rattle.rota_pb.specs.WeekFiles.{read_week}

-- the number of the variables of a week's model
abbrev pub variables_of : InstanceTables → ℕ
variables_of tables = (model_of (problem_of tables)).variables

-- an answer to the model of a week is read; then the solution file of its roster is sent, then the report
abbrev pub decode_answer : InstanceTables → Reader → Writer → Writer → Step (Unit {0})
decode_answer tables answer sol report = do
  solved ← read_answer (variables_of tables) answer
  decoded ← find_roster (problem_of tables) solved
  send sol (solution_text tables (set_of decoded.roster))
  send report (report_text decoded)

-- the files of a week are read, and then an answer to its model
unfoldable pub decode_run : Choice → WeekReaders → Reader → Writer → Writer → Step (Unit {0})
decode_run choice readers answer sol report = do
  tables ← read_week choice readers
  decode_answer tables answer sol report
