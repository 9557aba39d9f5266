-- The program ends by what lies in the files at the paths of its job.
use Rattle.std.proofs.Common.{◌≡◌, ℕ, sym, subst, Result, Ok, Err}
use Rattle.byte_ports.specs.Openers.{Opener}
use Rattle.byte_ports.specs.Paths.{Path}
use Rattle.byte_ports.specs.declared.open_files.OpenFault.{OpenFault}
use Rattle.rota_pb.specs.OpenFaults.{fault_of_opening}
use Rattle.rota_pb.specs.RunPorts.{IsUntouched, Writer}
use Rattle.rota_pb.specs.declared.period_fault.PeriodFault.{PeriodFault}
use Rattle.rota_pb.specs.declared.period_fault.PeriodFault.TheVariants.{InWeek, Run, Unmet}
use Rattle.inrc2pb_frame.specs.Contents.{IsKnown}
use Rattle.inrc2pb_frame.specs.Exits.{IsExitOf, PrinterState}
use Rattle.inrc2pb_frame.specs.Given.{Given}
use Rattle.inrc2pb_frame.specs.Runs.IsRun.{performed, stopped}
use Rattle.inrc2pb_frame.specs.declared.stop.Stop.{Stop}
use Rattle.inrc2pb_frame.proofs.JobEndings.{IsForReading, ends_done, ends_failed, ends_stopped, ends_unread, for_opening, for_run, for_week, unread_fault}
use Rattle.inrc2pb_frame.proofs.Shows.{reading}
use Rattle.rota_bound_run.specs.Bounding.{AnswersFrom}
use Rattle.rota_bound_run.specs.declared.files.PeriodFiles.{PeriodFiles}
use Rattle.inrc2pb_bound_program.specs.BoundEnds.{BoundEnds, BoundFollowsFromFiles, bound_written}
use Rattle.inrc2pb_bound_program.specs.BoundPrograms.{BoundOutcome, end_of, inrc2pb_bound}
use Rattle.inrc2pb_bound_program.specs.BoundPrograms.BoundOutcome.{ran, unopened}
use Rattle.inrc2pb_bound_program.specs.PeriodContents.{answer_in}
use Rattle.inrc2pb_bound_program.specs.declared.job.BoundJob.{BoundJob}
use Rattle.inrc2pb_bound_program.proofs.OpenedPeriod.{IsNewPeriod, period_opened}
use Rattle.inrc2pb_bound_program.proofs.PeriodShows.{about_period, writes-answer}

unread_period : (fault : PeriodFault) → about_period fault ≡ reading → IsForReading fault
unread_period (Run fault) of = for_run fault (unread_fault fault of)
unread_period (InWeek week fault) of = for_week week fault (unread_fault fault of)
unread_period (Unmet line) of = absurd (cc of)

module _ {F : Type 0} (opener : Opener F) (job : BoundJob) (out : Writer) (known : (path : Path) → IsKnown (opener.at path))
    (help errors : PrinterState) (status : ℕ) where
  -- the program ends as its run does
  abbrev Exits : Result (Unit {0}) PeriodFault → Type 0
  Exits result = IsExitOf inrc2pb_bound.app.top.name (end_of result) help errors status

  abbrev Ends : Type 0
  Ends = BoundEnds opener.at job out errors status

  ends_unopened : (result : Result (Unit {0}) PeriodFault) (fault : OpenFault) → result ≡ Err (Run (fault_of_opening fault)) →
      IsUntouched out → Exits result → Ends
  ends_unopened (Ok done) fault is idle exits = absurd (cc is)
  ends_unopened (Err end) fault is idle exits =
      ends_unread inrc2pb_bound.app.top.name help errors status (answer_in opener.at job.question job.paths) (λ f. f) (bound_written out)
      end (subst IsForReading (sym (cc is)) (for_opening fault)) idle exits

  -- the run read new files of the paths
  ends_ran : (opened left : PeriodFiles F) → IsNewPeriod opener.port opener.at job.paths opened → (result : Result (Unit {0}) PeriodFault) →
      AnswersFrom job.question opener.port opened left out result → Exits result → Ends
  ends_ran opened left new (Ok done) answers exits =
      ends_done inrc2pb_bound.app.top.name help errors status (answer_in opener.at job.question job.paths) (λ f. f) (bound_written out)
      about_period unread_period (writes-answer opener.port opener.at known job.question job.paths opened left new out) answers exits.0
  ends_ran opened left new (Err fault) answers exits =
      ends_failed inrc2pb_bound.app.top.name help errors status (answer_in opener.at job.question job.paths) (λ f. f) (bound_written out)
      about_period unread_period (writes-answer opener.port opener.at known job.question job.paths opened left new out) fault answers exits

  pub ends_so : (result : Result (Unit {0}) PeriodFault) → BoundOutcome opener job out result → Exits result → Ends
  ends_so result (unopened fault is opens idle) exits = ends_unopened result fault is idle exits
  ends_so result (ran opened left opens answers) exits =
      ends_ran opened left (period_opened opener.port opener.at job.paths opened opens.asked opens.ends) result answers exits

module _ {F X Z : Type 0} (opener : Opener F) (out : Writer) (help errors : PrinterState) (status : ℕ) where
  pub follows : (words : Given X Z) → BoundFollowsFromFiles opener words out help errors status
  follows words job spelled known other (ended, stopped stop is why idle, exits) = record {
    job = job;
    spelled = spelled;
    ends = ends_stopped inrc2pb_bound.app.top.name help errors status (answer_in opener.at job.question job.paths) (λ f. f) (bound_written out)
        inrc2pb_bound words job spelled stop why idle.output other
        (subst (λ (end : Result (Unit {0}) Stop). IsExitOf inrc2pb_bound.app.top.name end help errors status) is exits);
  }
  follows words job spelled known other (ended, performed named is answered, exits) = record {
    job = named;
    spelled = is;
    ends = ends_so opener named out known help errors status answered.result answered.outcome
        (subst (λ (end : Result (Unit {0}) Stop). IsExitOf inrc2pb_bound.app.top.name end help errors status) answered.end exits);
  }
