-- A run that answers what was asked about the plans of some weeks: the files that it reads, and the text that it writes.
use Rattle.std.specs.Prelude.{Result, length}
use Rattle.byte_ports.specs.declared.ports.Source.{Ghosts as SourceGhosts}
use Rattle.rota_pb.specs.RunPorts.{Writer}
use Rattle.rota_pb.specs.Steps.{◌>>=◌, send}
use Rattle.rota_pb.specs.declared.period_fault.PeriodFault.{PeriodFault}
use Rattle.rota_bound_run.specs.BoundText.{bound_text}
use Rattle.rota_bound_run.specs.CertificateRead.{read_proof}
use Rattle.rota_bound_run.specs.ExactAnswers.{IsAnswer}
use Rattle.rota_bound_run.specs.PeriodFiles.{FilesOfPeriod, period_readers}
use Rattle.rota_bound_run.specs.PeriodRead.{read_period}
use Rattle.rota_bound_run.specs.PeriodSteps.{PeriodStep, for_all, make}
use Rattle.rota_bound_run.specs.PlanJudged.{judge_plan}
use Rattle.rota_bound_run.specs.declared.files.PeriodFiles.{PeriodFiles}
use Rattle.rota_bound_run.specs.declared.files.Question.{Question}

-- The period is read, then the certificate, and each roster; then the text of the answer is sent.
unfoldable pub bound_run : Question → FilesOfPeriod → Writer → PeriodStep (Unit {0})
bound_run question files out = do
  period ← read_period question.early files.scenario files.history files.weeks files.given
  certificate ← for_all (read_proof period.ward.scenario (length period.weeks) files.proof)
  judged ← judge_plan period.weeks period.given files.rosters
  answer ← make (IsAnswer question.minimums period.weeks period.given.conditions certificate judged)
  for_all (send out (bound_text answer))

-- the run answered the question from the files that are `old` before it and `new` after it
abbrev pub AnswersFrom : {S : Type 0} → Question → SourceGhosts S → (old new : PeriodFiles S) → Writer → Result (Unit {0}) PeriodFault → Type 0
AnswersFrom question port old new out result = (bound_run question (period_readers port old new) out).ends result
