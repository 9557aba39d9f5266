-- The texts of a job that follow from what lies at the paths of its files, or the first fault that is found there.
use Rattle.std.specs.Prelude.{◌≡◌, ℕ, List, Ok, Err}
use Rattle.std.specs.Option.{option_map_or}
use Rattle.std.specs.declared.string.String.{String}
use Rattle.rota_core.specs.InstanceTables.{InstanceTables, problem_of}
use Rattle.rota_core.specs.RosterTables.{set_of}
use Rattle.rota_core.specs.declared.fault.FileName.TheVariants as names
use Rattle.rota_read.specs.HistoryLayout.{history}
use Rattle.rota_read.specs.ScenarioLayout.{scenario}
use Rattle.rota_read.specs.SolutionText.{solution_text}
use Rattle.rota_read.specs.WeekLayout.{week}
use Rattle.solver_text.specs.Answers.{outcome}
use Rattle.solver_text.specs.declared.outcome.Solved.{Solved}
use Rattle.rota_pb.specs.Decoded.{find_roster}
use Rattle.rota_pb.specs.Decoding.{variables_of}
use Rattle.rota_pb.specs.Encoding.{IsModelText}
use Rattle.rota_pb.specs.Extending.{BreaksRule, extension_text}
use Rattle.rota_pb.specs.Imports.{KeepsHardRules}
use Rattle.rota_pb.specs.Report.{report_text}
use Rattle.rota_pb.specs.RunPorts.{Reader}
use Rattle.rota_pb.specs.Steps.{Step, ◌>>=◌, check, find}
use Rattle.rota_pb.specs.StepsInTurn.{◌>>◌}
use Rattle.rota_pb.specs.WeekFiles.{join}
use Rattle.rota_pb.specs.declared.fault.Fault.{Fault}
use Rattle.rota_pb.specs.declared.fault.Fault.TheVariants.{Answer}
use Rattle.inrc2pb_frame.specs.Contents.{LiesIn, content_of, file_in, held_in, roster_in}
use Rattle.byte_ports.specs.Paths.{FileAt, Path, file_of, unknown}
use Rattle.inrc2pb_program.specs.declared.job.Inputs.{Inputs}

-- what the reader has left, as the content of a file
abbrev pub content_left : Reader → FileAt
content_left reader = option_map_or file_of (reader.port.left reader.old) unknown

-- an answer to a model with this many variables lies there, and the fault is its first
abbrev pub HasAnswerFaultIn : ℕ → FileAt → Fault → Type 0
HasAnswerFaultIn variables content (Answer fault) = LiesIn content (λ bytes found. outcome variables bytes ≡ Err found) fault
HasAnswerFaultIn variables content _ = ⊥

-- the meaning of the answer, or its first fault
abbrev pub answer_in : ℕ → FileAt → Step Solved
answer_in variables content =
    check (LiesIn content (λ bytes found. outcome variables bytes ≡ Ok found)) (HasAnswerFaultIn variables content)

module _ (at : Path → FileAt) where
  -- the scenario, the history and the week, joined
  abbrev pub tables_in : Inputs → Step InstanceTables
  tables_in inputs = do
    s ← file_in names.Scenario scenario (content_of at inputs.sce)
    h ← file_in names.History (history s) (content_of at inputs.his)
    w ← file_in names.Week (week s) (content_of at inputs.week)
    join s h w inputs.early

  -- the week with its held cells
  abbrev pub week_in : Inputs → Step InstanceTables
  week_in inputs = do
    tables ← tables_in inputs
    held_in at tables inputs.fix

  -- the text of the week's model
  unfoldable pub model_in : Inputs → Step (List ℕ)
  model_in inputs = do
    tables ← week_in inputs
    find (IsModelText (problem_of tables))

  -- the solution file of the answer's roster, which keeps the hard rules, and the report on it
  unfoldable pub solution_in : Inputs → (answer : FileAt) → Step (List ℕ × List ℕ)
  solution_in inputs answer = do
    tables ← week_in inputs
    solved ← answer_in (variables_of tables) answer
    decoded ← find_roster (problem_of tables) solved
    find (λ texts. texts ≡ (solution_text tables (set_of decoded.roster), report_text decoded))

  -- the answer of the extension of the roster, if it keeps the hard rules
  unfoldable pub extension_in : {X : Type 0} → Inputs → (from : String X) → Step (List ℕ)
  extension_in inputs from = do
    tables ← week_in inputs
    roster ← roster_in names.Solution tables (content_of at from)
    check (λ _. KeepsHardRules (problem_of tables) (set_of roster)) (BreaksRule (problem_of tables) (set_of roster))
    find (λ text. text ≡ extension_text (problem_of tables) (set_of roster))
