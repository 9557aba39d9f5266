-- The text that an extending run writes.
use Rattle.std.specs.Prelude.{◌≡◌, ℕ, ◌<◌, ◌≤◌, pos, List, Some, Ok}
use Rattle.rota_pb.specs.Imports.{Breaks, Cell, Choice, Fault, InWeek, InstanceTables, IsInstance, KeepsHardRules, Problem, problem_of}
use Rattle.rota_pb.specs.Imports.{Roster, roster_of, set_of}
use Rattle.rota_core.specs.declared.fault.FileName.TheVariants as names
use Rattle.rota_judge.specs.FirstUnmet.{FirstBroken}
use Rattle.rota_judge.specs.ExtensionTruths.{extension_truths}
use Rattle.rota_rules.specs.Penalty.{penalty}
use Rattle.rota_judge.specs.Truths.{truth_of}
use Rattle.rota_items.specs.WeekModel.{model_of}
use Rattle.rota_judge.specs.Extensions.{extension_of}
use Rattle.solver_text.specs.declared.outcome.Status.TheVariants.{Satisfiable}
use Rattle.solver_text.specs.Answers.{outcome}
use Rattle.solver_text.specs.AnswerText.{answer_text}
use Rattle.rota_pb.specs.RunPorts.{Reader, WeekReaders, Writer}
use Rattle.rota_pb.specs.Steps.{Step, ◌>>=◌, check, send}
use Rattle.rota_pb.specs.StepsInTurn.{◌>>◌}
use Rattle.rota_pb.specs.WeekFiles.{read_roster, read_week}

-- the answer of the roster's extension with this objective
unfoldable pub extension_answer : ℕ → Problem → Roster → List ℕ
extension_answer objective problem roster = answer_text objective (extension_truths problem roster)

-- its objective is the roster's penalty
abbrev pub extension_text : Problem → Roster → List ℕ
extension_text problem roster = extension_answer (penalty problem roster) problem roster

-- why no answer is written for a roster: the first hard rule that it breaks
abbrev pub BreaksRule : Problem → Roster → Fault → Type 0
BreaksRule problem roster (Breaks rule) = FirstBroken problem roster rule
BreaksRule problem roster _ = ⊥

-- the roster must keep the hard rules; then the answer of its extension is sent
abbrev pub extend_roster : Problem → Roster → Writer → Step (Unit {0})
extend_roster problem roster out = do
  check (λ _. KeepsHardRules problem roster) (BreaksRule problem roster)
  send out (extension_text problem roster)

-- the files of a week are read, then a roster, and its extension is sent
unfoldable pub extend_run : Choice → WeekReaders → Reader → Writer → Step (Unit {0})
extend_run choice readers given out = do
  tables ← read_week choice readers
  roster ← read_roster names.Solution tables given
  extend_roster (problem_of tables) (set_of roster) out

-- the meaning of the answer of a roster's extension, for the week's model and for the roster
pub record IsReadBack (problem : Problem) (roster : Roster) : Type 0 where
  pub outcome : outcome (model_of problem).variables (extension_text problem roster) ≡
      Ok (record { status = Satisfiable; last_o = Some (pos (penalty problem roster)); bits = extension_truths problem roster })
  pub truths : (v : ℕ) → 0 < v → v ≤ (model_of problem).variables →
      truth_of (extension_truths problem roster) v ≡ extension_of problem roster v
  pub same_roster : (cell : Cell) → InWeek problem cell → roster_of problem (truth_of (extension_truths problem roster)) cell ≡ roster cell

-- The answer of the extension of a roster that keeps the hard rules is read as that extension, at the roster's penalty, and represents
-- the roster.
abbrev pub ExtensionIsReadBack : Type 0
ExtensionIsReadBack =
    (tables : InstanceTables) (roster : Roster) → IsInstance tables → KeepsHardRules (problem_of tables) roster →
    IsReadBack (problem_of tables) roster
