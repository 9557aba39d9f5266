-- The answer about a period that follows from what lies at the paths of its files, or the first fault that is found there.
use Rattle.std.specs.Prelude.{◌≡◌, ℕ, Bool, List, [], ◌∷◌, ◌++◌, length, map, Option, None, Some, slice_get}
use Rattle.std.specs.declared.string.String.{String}
use Rattle.rota_core.specs.InstanceTables.{InstanceTables, IsInstance, problem_of}
use Rattle.rota_core.specs.RosterTables.{RosterTables, set_of}
use Rattle.rota_core.specs.ScenarioTables.{ScenarioTables}
use Rattle.rota_core.specs.declared.certificate.Certificate.{Certificate}
use Rattle.rota_core.specs.declared.fault.FileName.TheVariants as names
use Rattle.rota_certificate.specs.CasePaths.{RepeatsFact}
use Rattle.rota_certificate.specs.Plans.{Pasts, after}
use Rattle.rota_certificate_read.specs.CertificateLayout.{IsCertificateOf, SpellsCertificate, certificate}
use Rattle.rota_certificate_read.specs.FactsLayout.{GivenTables, facts, no_facts}
use Rattle.rota_read.specs.HistoryLayout.{history}
use Rattle.rota_read.specs.ScenarioLayout.{scenario}
use Rattle.rota_read.specs.WeekLayout.{week as week_layout}
use Rattle.rota_pb.specs.Steps.{Step, ◌>>=◌, check, find}
use Rattle.rota_pb.specs.StepsInTurn.{◌>>◌}
use Rattle.inrc2pb_frame.specs.Contents.{HasFaultIn, LiesIn, content_of, file_in, held_in, roster_in}
use Rattle.byte_ports.specs.Paths.{FileAt, Path}
use Rattle.rota_bound_run.specs.CertificateRead.{HasRepeatedFact, IsFreeCertificate}
use Rattle.rota_bound_run.specs.ExactAnswers.{IsAnswer}
use Rattle.rota_bound_run.specs.Judging.{ArePastsOf, IsBeyond, history_before, judge_roster}
use Rattle.rota_bound_run.specs.PeriodRead.{PeriodTables}
use Rattle.rota_bound_run.specs.PeriodSteps.{PeriodStep, for_all, for_week}
use Rattle.rota_bound_run.specs.PlanJudged.{for_some, meet_given}
use Rattle.rota_bound_run.specs.Wards.{IsWardOf}
use Rattle.rota_bound_run.specs.WeeksRead.{IsLate, week_at}
use Rattle.rota_bound_run.specs.declared.answer.PeriodAnswer.{PeriodAnswer}
use Rattle.rota_bound_run.specs.declared.files.PeriodFiles.{PeriodFiles}
use Rattle.rota_bound_run.specs.declared.files.Question.{Question}
use Rattle.rota_bound_run.specs.declared.files.WeekFiles.{WeekFiles}
use Rattle.rota_bound_run.specs.declared.judged.Judged.{Judged}
use Rattle.rota_bound_run.specs.declared.ward.Ward.{Ward}

module _ {X : Type 0} (at : Path → FileAt) where
  -- the scenario and the history
  abbrev pub ward_in : PeriodFiles (String X) → Step Ward
  ward_in paths = do
    s ← file_in names.Scenario scenario (content_of at paths.scenario)
    h ← file_in names.History (history s) (content_of at paths.history)
    find (IsWardOf s h)

  -- the week that comes this many weeks after the first, if it is one of the scenario's
  abbrev pub week_in : Bool → Ward → ℕ → WeekFiles (String X) → Step InstanceTables
  week_in early ward later paths = do
    w ← file_in names.Week (week_layout ward.scenario) (content_of at paths.week)
    tables ← check (λ tables. (tables ≡ week_at early ward later w) × IsInstance tables) (IsLate ward later)
    held_in at tables paths.fix

  -- the weeks that were found, and those of these files after them
  unfoldable pub weeks_in : Bool → Ward → (count : ℕ) → List InstanceTables → List (WeekFiles (String X)) → PeriodStep (List InstanceTables)
  weeks_in early ward count found [] = check (λ weeks. weeks ≡ found) (λ fault. ⊥)
  weeks_in early ward count found (paths ∷ later) = do
    week ← for_week count (length found) (week_in early ward (length found) paths)
    weeks_in early ward count (found ++ week ∷ []) later

  -- the given facts; there are none if no file is named
  abbrev pub given_in : ScenarioTables → (weeks : ℕ) → Option (String X) → Step GivenTables
  given_in s weeks None = find (λ given. given ≡ no_facts)
  given_in s weeks (Some path) = file_in names.Facts (facts s weeks) (content_of at path)

  -- the certificate, with no fact twice on a path; each price is 0 if no file is named
  abbrev pub certificate_in : ScenarioTables → (weeks : ℕ) → Option (String X) → Step Certificate
  certificate_in s weeks None = find (IsFreeCertificate s weeks)
  certificate_in s weeks (Some path) = do
    found ← check (λ found. LiesIn (content_of at path) (SpellsCertificate s weeks) found × IsCertificateOf s weeks found)
        (HasFaultIn names.Certificate (certificate s weeks) (content_of at path))
    check (λ same. (same ≡ found) × ¬ RepeatsFact found) (HasRepeatedFact found)

  -- the roster of the week, which keeps the hard rules after this history
  abbrev pub judged_in : InstanceTables → Pasts → String X → Step RosterTables
  judged_in tables history path = do
    check (λ _. ArePastsOf (after (problem_of tables) history)) (IsBeyond (after (problem_of tables) history))
    roster ← roster_in names.Solution tables (content_of at path)
    judge_roster (after (problem_of tables) history) roster

  -- the rosters that were found, and those of these files after them, each of the first week that has none
  unfoldable pub rosters_in : List InstanceTables → List RosterTables → List (String X) → PeriodStep (List RosterTables)
  rosters_in weeks found [] = check (λ rosters. rosters ≡ found) (λ fault. ⊥)
  rosters_in weeks found (path ∷ later) = for_some (slice_get weeks (length found)) λ week. do
    roster ← for_week (length weeks) (length found) (judged_in week (history_before (map problem_of weeks) (map set_of found)) path)
    rosters_in weeks (found ++ roster ∷ []) later

  -- the rosters, which meet the given facts, if files are named for them
  abbrev pub plan_in : List InstanceTables → GivenTables → List (String X) → PeriodStep (Option Judged)
  plan_in weeks given [] = check (λ judged. judged ≡ None) (λ fault. ⊥)
  plan_in weeks given (path ∷ paths) = do
    rosters ← rosters_in weeks [] (path ∷ paths)
    judged ← meet_given weeks given rosters
    check (λ found. found ≡ Some judged) (λ fault. ⊥)

  -- the ward, its weeks and the given facts
  abbrev pub period_in : Bool → PeriodFiles (String X) → PeriodStep PeriodTables
  period_in early paths = do
    ward ← for_all (ward_in paths)
    weeks ← weeks_in early ward (length paths.weeks.items) [] paths.weeks.items
    given ← for_all (given_in ward.scenario (length weeks) paths.given)
    check (λ period. period ≡ record { ward = ward; weeks = weeks; given = given }) (λ fault. ⊥)

  -- the answer, which is true of exactly these
  unfoldable pub answer_in : Question → PeriodFiles (String X) → PeriodStep PeriodAnswer
  answer_in question paths = do
    period ← period_in question.early paths
    certificate ← for_all (certificate_in period.ward.scenario (length period.weeks) paths.proof)
    judged ← plan_in period.weeks period.given paths.rosters.items
    check (IsAnswer question.minimums period.weeks period.given.conditions certificate judged) (λ fault. ⊥)
