-- What each exit status of the program says of the files at the paths of its job, and of the output.
use Rattle.std.specs.Prelude.{ℕ}
use Rattle.rota_pb.specs.RunPorts.{IsUntouched, Writer, WritesBeginning, WritesText}
use Rattle.byte_ports.specs.Openers.{Opener}
use Rattle.byte_ports.specs.Paths.{FileAt, Path}
use Rattle.inrc2pb_frame.specs.Exits.{PrinterState}
use Rattle.inrc2pb_frame.specs.Given.{Given}
use Rattle.inrc2pb_frame.specs.JobEnds.{EndsBy, FollowsFromFiles, Written}
use Rattle.rota_bound_run.specs.BoundText.{bound_text}
use Rattle.rota_bound_run.specs.declared.answer.PeriodAnswer.{PeriodAnswer}
use Rattle.inrc2pb_bound_program.specs.BoundPrograms.{BoundProgramOutcome, inrc2pb_bound}
use Rattle.inrc2pb_bound_program.specs.PeriodContents.{answer_in}
use Rattle.inrc2pb_bound_program.specs.declared.job.BoundJob.{BoundJob}

-- nothing, the text of an answer, or a beginning of it
abbrev pub bound_written : Writer → Written PeriodAnswer
bound_written out = record {
  nothing = IsUntouched out;
  all = λ answer. WritesText out (bound_text answer);
  beginning = λ answer. WritesBeginning out (bound_text answer);
}

-- the program ended by the answer that follows from the files at the paths of the job
abbrev pub BoundEnds : (Path → FileAt) → BoundJob → Writer → PrinterState → ℕ → Type 0
BoundEnds at job out errors status =
    EndsBy (answer_in at job.question job.paths) (λ fault. fault) (bound_written out) inrc2pb_bound.app.top.name errors status

-- the program ended by the files at the paths of the job that the words spell
abbrev pub BoundFollowsFromFiles : {F X Z : Type 0} → Opener F → Given X Z → Writer → PrinterState → PrinterState → ℕ → Type 0
BoundFollowsFromFiles opener words out help errors status =
    FollowsFromFiles inrc2pb_bound words opener.at (λ job. BoundEnds opener.at job out errors status) status
    (BoundProgramOutcome opener words out help errors status)
