-- The outcome of a run that encodes: the text that it writes, or its fault.
use Rattle.std.specs.Prelude.{◌≡◌, ℕ, List}
use Rattle.rota_pb.specs.Imports.{Choice, Model, Problem, problem_of}
use Rattle.opb_text.specs.ModelText.{opb_text}
use Rattle.rota_pb.specs.ExactModel.{IsExactModel}
use Rattle.rota_pb.specs.Meaning.{MeansRules}
use Rattle.rota_pb.specs.RunPorts.{WeekReaders, Writer}
use Rattle.rota_pb.specs.Steps.{Step, ◌>>=◌, find, send}
use Rattle.rota_pb.specs.WeekFiles.{read_week}

-- The text spells one model and no other. This model means the rules of the week, and it is exactly the week's model.
pub record IsModelText (problem : Problem) (text : List ℕ) : Type 0 where
  pub model : Model
  pub is_text : text ≡ opb_text model
  pub is_only : (other : Model) → text ≡ opb_text other → other ≡ model
  pub means : MeansRules problem model
  pub exact : IsExactModel problem model

-- the files of a week are read, and then the text of its model is sent
unfoldable pub encode_run : Choice → WeekReaders → Writer → Step (Unit {0})
encode_run choice readers out = do
  tables ← read_week choice readers
  text ← find (IsModelText (problem_of tables))
  send out text
