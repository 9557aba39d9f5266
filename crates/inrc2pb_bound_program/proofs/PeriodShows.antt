-- The run for a period shows what lies in the files: each step of it, beside the step over their contents.
use Rattle.std.proofs.Common.{◌≡◌, ◌∙◌, ℕ, suc, ◌+◌, ◌==◌, ◌++◌, refl, ap, sym, subst, arith, inl, inr, List, [], ◌∷◌, length, map, Result, Ok, Err}
use Rattle.std.specs.Prelude.{⊤, ◌⊎◌, Bool, true, false, Option, Some, None, Vec, if◌then◌else◌, slice_get}
use Rattle.std.specs.declared.string.String.{String}
use Rattle.byte_ports.specs.declared.ports.Source.{Ghosts}
use Rattle.rota_core.specs.InstanceTables.{InstanceTables, IsInstance, holding, problem_of}
use Rattle.rota_core.specs.Problem.{Problem}
use Rattle.rota_core.specs.Roster.{Roster}
use Rattle.rota_core.specs.RosterTables.{RosterTables, set_of}
use Rattle.rota_core.specs.ScenarioTables.{ScenarioTables}
use Rattle.rota_core.specs.Trees.{leaf_tree}
use Rattle.rota_core.specs.declared.certificate.Certificate.{Certificate}
use Rattle.rota_core.specs.declared.fault.FileName.TheVariants as names
use Rattle.rota_certificate.specs.CasePaths.{RepeatsFact}
use Rattle.rota_certificate.specs.Plans.{Pasts, after}
use Rattle.rota_certificate_read.specs.CertificateLayout.{certificate}
use Rattle.rota_certificate_read.specs.FactsLayout.{GivenTables, facts, no_facts}
use Rattle.rota_read.specs.HistoryLayout.{history}
use Rattle.rota_read.specs.ScenarioLayout.{scenario}
use Rattle.rota_read.specs.WeekLayout.{week as week_layout}
use Rattle.rota_pb.specs.Extending.{BreaksRule}
use Rattle.rota_pb.specs.PeriodFaults.{fault_in_week}
use Rattle.rota_pb.specs.RunPorts.{IsUntouched, Writer, WritesBeginning, WritesText, reader_of}
use Rattle.rota_pb.specs.Steps.{EndsInTurn, Step, StepOf, ◌>>=◌, check, stopped, went_on}
use Rattle.rota_pb.specs.declared.fault.Fault.{Fault}
use Rattle.rota_pb.specs.declared.fault.Fault.TheVariants.{Answer, Breaks, File, Memory, NoRoster, Read, Write}
use Rattle.rota_pb.specs.declared.fault.Fault.TheVariants as one_fault
use Rattle.rota_pb.specs.declared.period_fault.PeriodFault.{PeriodFault}
use Rattle.rota_pb.specs.declared.period_fault.PeriodFault.TheVariants.{InWeek, Run, Unmet}
use Rattle.inrc2pb_frame.specs.Contents.{IsKnown, content_of, held_in}
use Rattle.byte_ports.specs.Paths.{FileAt, Path}
use Rattle.inrc2pb_frame.proofs.FilesShown.{shows-roster, shows-spelled, told}
use Rattle.byte_ports.proofs.OpenedFiles.{IsNewAt, IsNewIfNamed}
use Rattle.inrc2pb_frame.proofs.Shows.{About, Shows, Writes, about, contents, lies, reading, shows-check, shows-file, shows-find, shows-made}
use Rattle.inrc2pb_frame.proofs.Shows.{shows-room, shows-same, shows-then, writes-last, writes-then, writing}
use Rattle.rota_bound_run.specs.BoundText.{bound_text}
use Rattle.rota_bound_run.specs.Bounding.{bound_run}
use Rattle.rota_bound_run.specs.CertificateRead.{HasRepeatedFact, IsFreeCertificate, read_proof}
use Rattle.rota_bound_run.specs.ExactAnswers.{IsAnswer}
use Rattle.rota_bound_run.specs.Judging.{ArePastsOf, IsBeyond, history_before, judge_week}
use Rattle.rota_bound_run.specs.PeriodFiles.{each_of, period_readers, reader_if, week_readers}
use Rattle.rota_bound_run.specs.PeriodRead.{PeriodTables, read_given, read_next, read_period, read_weeks}
use Rattle.rota_bound_run.specs.PeriodSteps.{PeriodStep, for_all, for_week, in_turn, lost, renamed}
use Rattle.rota_bound_run.specs.PlanJudged.{for_some, judge_next, judge_plan, meet_given}
use Rattle.rota_bound_run.specs.Wards.{IsWardOf, read_ward}
use Rattle.rota_bound_run.specs.WeeksRead.{IsLate, hold_cells, read_period_week, week_at}
use Rattle.rota_bound_run.specs.declared.answer.PeriodAnswer.{PeriodAnswer}
use Rattle.rota_bound_run.specs.declared.claims.Claim.TheVariants.{Unknown}
use Rattle.rota_bound_run.specs.declared.files.PeriodFiles.{PeriodFiles}
use Rattle.rota_bound_run.specs.declared.files.Question.{Question}
use Rattle.rota_bound_run.specs.declared.files.WeekFiles.{WeekFiles}
use Rattle.rota_bound_run.specs.declared.ward.Ward.{Ward}
use Rattle.inrc2pb_bound_program.specs.PeriodContents.{answer_in, certificate_in, given_in, judged_in, period_in, plan_in, rosters_in}
use Rattle.inrc2pb_bound_program.specs.PeriodContents.{ward_in, week_in, weeks_in}
use Rattle.inrc2pb_bound_program.proofs.OpenedPeriod.{InPairs, IsNewPeriod, IsNewWeek, pairs-length}

-- what the fault of a run for several weeks is about
abbrev pub about_period : PeriodFault → About
about_period (Run fault) = about fault
about_period (InWeek week fault) = about fault
about_period (Unmet line) = contents

about-week : (weeks index : ℕ) (fault : Fault) → about_period (fault_in_week weeks index fault) ≡ about fault
about-week weeks index fault = either (weeks == 1)
  where
    either : (only : Bool) → about_period (if only then Run fault else InWeek (index + 1) fault) ≡ about fault
    either true = refl
    either false = refl

module _ {A : Type 0} (named : Fault → PeriodFault) (same : (fault : Fault) → about_period (named fault) ≡ about fault)
    {run shown : Step A} (one : Shows about run shown) where
  shows-renamed : Shows about_period (renamed named run) (renamed named shown)
  shows-renamed = record {
    idle = one.idle;
    found = one.found;
    refused = λ fault of is. (is.0, is.1, one.refused is.0 (sym (same is.0) ∙ sym (ap about_period is.1) ∙ of) is.2);
    unwritten = λ fault of is. one.unwritten is.0 (sym (same is.0) ∙ sym (ap about_period is.1) ∙ of) is.2;
  }

shows-for_all : {A : Type 0} {run shown : Step A} → Shows about run shown → Shows about_period (for_all run) (for_all shown)
shows-for_all one = shows-renamed Run (λ fault. refl) one

shows-for_week : {A : Type 0} (weeks index : ℕ) {run shown : Step A} → Shows about run shown →
    Shows about_period (for_week weeks index run) (for_week weeks index shown)
shows-for_week weeks index one = shows-renamed (fault_in_week weeks index) (about-week weeks index) one

breaks-about : (week : Problem) (roster : Roster) (fault : Fault) → BreaksRule week roster fault → about fault ≡ contents
breaks-about week roster (Breaks rule) breaks = refl
breaks-about week roster (File one) breaks = absurd breaks
breaks-about week roster Memory breaks = absurd breaks
breaks-about week roster Write breaks = absurd breaks
breaks-about week roster Read breaks = absurd breaks
breaks-about week roster (Answer one) breaks = absurd breaks
breaks-about week roster (NoRoster status) breaks = absurd breaks
breaks-about week roster (one_fault.Unmet number) breaks = absurd breaks

lacks-memory : (fault : PeriodFault) → fault ≡ Run Memory → about_period fault ≡ reading
lacks-memory fault is = ap about_period is

-- there is a reader for each file
length-readers : {E : Type 0} {R : Type 1} (one_of : E → E → R) (olds news : List E) → length (each_of one_of olds news) ≡ length olds
unfolding each_of
length-readers one_of [] news = refl
length-readers one_of (old ∷ olds) [] = ap suc (length-readers one_of olds [])
length-readers one_of (old ∷ olds) (new ∷ news) = ap suc (length-readers one_of olds news)

-- a fault of the files, unless memory runs out
module _ (IsFound : Fault → Type 0) where
  found-refused : (fault : Fault) → about fault ≡ contents → (fault ≡ Memory) ⊎ IsFound fault → IsFound fault
  found-refused fault of (inl is) = absurd (cc (of, ap about is))
  found-refused fault of (inr found) = found

  found-unwritten : ((fault : Fault) → IsFound fault → about fault ≡ contents) → (fault : Fault) → about fault ≡ writing →
      (fault ≡ Memory) ⊎ IsFound fault → ⊥
  found-unwritten is_of fault of (inl is) = cc (of, ap about is)
  found-unwritten is_of fault of (inr found) = cc (of, is_of fault found)

shows-met : (weeks : List InstanceTables) (given : GivenTables) (rosters : List RosterTables) → Shows about_period
    (meet_given weeks given rosters >>= λ judged. check (λ found. found ≡ Some judged) (λ fault. ⊥))
    (meet_given weeks given rosters >>= λ judged. check (λ found. found ≡ Some judged) (λ fault. ⊥))
shows-met weeks given rosters =
    shows-then about_period (shows-same about_period _ _ (λ fault of unmet. cc (of, ap about_period unmet.1))) (λ judged.
    shows-find about_period (λ found. found ≡ Some judged))

-- a run that never ends shows all
shows-all : {F A : Type 0} (about : F → About) {run shown : StepOf F A} → ((result : Result A F) → run.ends result → ⊥) → shown.untouched →
    Shows about run shown
shows-all about never idle = record {
  idle = idle;
  found = λ value ends. absurd (never (Ok value) ends);
  refused = λ fault of ends. absurd (never (Err fault) ends);
  unwritten = λ fault of ends. never (Err fault) ends;
}

-- the step at a file that was let go
shows-lost : {F A : Type 0} (about : F → About) {shown : StepOf F A} → shown.untouched → Shows about lost shown
shows-lost about idle = shows-all about (λ result ends. ends) idle

-- no run goes on from a step that never ends
never-ends : {F A B : Type 0} {next : A → StepOf F B} {result : Result B F} →
    EndsInTurn (record { ends = λ (one : Result A F). ⊥; untouched = ⊤ }) next result → ⊥
never-ends (stopped fault is ends untouched) = ends
never-ends (went_on found ends rest) = ends

-- ---- a value of each type, for a run that stopped before it found one

no_items : {A B Z : Type 0} → Vec A Z → Vec B Z
no_items v = record { ptr = v.ptr; len = 0; cap = 0; alloc = v.alloc; items = []; ok = (refl, omega arith); small = omega arith }

module _ {X : Type 0} (paths : PeriodFiles (String X)) where
  some_ward : Ward
  some_ward = record {
    scenario = record {
      name = [];
      weeks = 0;
      skills = [];
      shifts = [];
      limits = [];
      forbidden = [];
      contracts = [];
      nurses = [];
      contract_of = [];
      has_skill = [];
    };
    history = record { nurses = 0; shifts = 0; skills = 0; week = 0; past = no_items paths.weeks };
  }

  some_period : PeriodTables
  some_period = record { ward = some_ward; weeks = []; given = no_facts }

  some_certificate : Certificate
  some_certificate = record { prices = no_items paths.weeks; tree = leaf_tree (record { prices = 0; surcharges = [] }) }

some_answer : PeriodAnswer
some_answer = record { claim = Unknown; penalty = None; optimal = false }

module _ {F X : Type 0} (port : Ghosts F) (at : Path → FileAt) (known : (path : Path) → IsKnown (at path)) where
  shows-ward : (paths : PeriodFiles (String X)) (old new : PeriodFiles F) → IsNewPeriod port at paths old →
      Shows about (read_ward (reader_of port old.scenario new.scenario) (reader_of port old.history new.history)) (ward_in at paths)
  shows-ward paths old new is =
      shows-then about (shows-spelled (told port at known paths.scenario old.scenario new.scenario is.scenario) names.Scenario scenario) (λ s.
      shows-then about (shows-spelled (told port at known paths.history old.history new.history is.history) names.History (history s)) (λ h.
      shows-find about (IsWardOf s h)))

  -- ---- the weeks

  shows-held : (tables : InstanceTables) (path : Option (String X)) (old new : Option F) → IsNewIfNamed port at path old →
      Shows about (hold_cells tables (reader_if port old new)) (held_in at tables path)
  shows-held tables None None new is = shows-find about (λ held. held ≡ tables)
  shows-held tables None (Some old) new is = absurd is
  shows-held tables (Some path) None new is = absurd is
  shows-held tables (Some path) (Some old) None is = shows-lost about (tt, λ roster. tt)
  shows-held tables (Some path) (Some old) (Some new) is =
      shows-then about (shows-roster (told port at known path old new is) names.Fixed tables) (λ roster.
      shows-find about (λ held. held ≡ holding tables roster))

  shows-week : (early : Bool) (ward : Ward) (later : ℕ) (paths : WeekFiles (String X)) (old new : WeekFiles F) → IsNewWeek port at paths old →
      Shows about (read_period_week early ward later (week_readers port old new)) (week_in at early ward later paths)
  shows-week early ward later paths old new is =
      shows-then about (shows-spelled (told port at known paths.week old.week new.week is.week) names.Week (week_layout ward.scenario)) (λ w.
      shows-then about (shows-check about (λ tables. (tables ≡ week_at early ward later w) × IsInstance tables) _ (IsLate ward later)
      (found-refused (IsLate ward later)) (found-unwritten (IsLate ward later) (λ fault late. ap about late.is))) (λ tables.
      shows-held tables paths.fix old.fix new.fix is.fix))

  module _ (early : Bool) (ward : Ward) (count : ℕ) where
    shows-next_week : (found : List InstanceTables) (paths : WeekFiles (String X)) (old new : WeekFiles F) → IsNewWeek port at paths old →
        {next : List InstanceTables → PeriodStep (List InstanceTables)} (onward : List InstanceTables → PeriodStep (List InstanceTables)) →
        ((week : InstanceTables) → Shows about_period (next (found ++ week ∷ [])) (onward (found ++ week ∷ []))) →
        Shows about_period (read_next early ward count found (week_readers port old new) >>= next)
        (for_week count (length found) (week_in at early ward (length found) paths) >>= λ week. onward (found ++ week ∷ []))
    shows-next_week found paths old new is {next} onward more =
        shows-made about_period (shows-for_week count (length found) (shows-week early ward (length found) paths old new is))
        (λ week. found ++ week ∷ []) lacks-memory {next = next} {onward = λ week. onward (found ++ week ∷ [])} more

    shows-weeks : (paths : List (WeekFiles (String X))) (olds news : List (WeekFiles F)) → InPairs (IsNewWeek port at) paths olds →
        (found : List InstanceTables) →
        Shows about_period (in_turn (read_next early ward count) found (each_of (week_readers port) olds news))
        (weeks_in at early ward count found paths)
    unfolding in_turn each_of weeks_in
    shows-weeks [] [] news pairs found = shows-find about_period (λ end. end ≡ found)
    shows-weeks [] (old ∷ olds) news pairs found = absurd pairs
    shows-weeks (path ∷ paths) [] news pairs found = absurd pairs
    shows-weeks (path ∷ paths) (old ∷ olds) [] pairs found =
        shows-lost about_period (shows-next_week found path old old pairs.0
        {next = λ more. in_turn (read_next early ward count) more (each_of (week_readers port) olds [])} (λ more. weeks_in at early ward count more paths)
        (λ week. shows-weeks paths olds [] pairs.1 (found ++ week ∷ []))).idle
    shows-weeks (path ∷ paths) (old ∷ olds) (new ∷ news) pairs found =
        shows-next_week found path old new pairs.0 (λ more. weeks_in at early ward count more paths)
        (λ week. shows-weeks paths olds news pairs.1 (found ++ week ∷ []))

  shows-all_weeks : (early : Bool) (ward : Ward) (paths : List (WeekFiles (String X))) (olds news : List (WeekFiles F)) →
      InPairs (IsNewWeek port at) paths olds →
      Shows about_period (read_weeks early ward (each_of (week_readers port) olds news)) (weeks_in at early ward (length paths) [] paths)
  shows-all_weeks early ward paths olds news pairs =
      let readers = each_of (week_readers port) olds news in
      let count : length readers ≡ length paths =
      length-readers (week_readers port) olds news ∙ pairs-length (IsNewWeek port at) paths olds pairs in
      subst (λ (n : ℕ). Shows about_period (in_turn (read_next early ward n) [] readers) (weeks_in at early ward (length paths) [] paths))
      (sym count) (shows-weeks early ward (length paths) paths olds news pairs [])

  -- ---- the facts

  shows-given : (s : ScenarioTables) (weeks : ℕ) (path : Option (String X)) (old new : Option F) → IsNewIfNamed port at path old →
      Shows about (read_given s weeks (reader_if port old new)) (given_in at s weeks path)
  shows-given s weeks None None new is = shows-find about (λ given. given ≡ no_facts)
  shows-given s weeks None (Some old) new is = absurd is
  shows-given s weeks (Some path) None new is = absurd is
  shows-given s weeks (Some path) (Some old) None is = shows-lost about tt
  shows-given s weeks (Some path) (Some old) (Some new) is = shows-spelled (told port at known path old new is) names.Facts (facts s weeks)

  -- ---- the period

  shows-period : (early : Bool) (paths : PeriodFiles (String X)) (old new : PeriodFiles F) → IsNewPeriod port at paths old →
      Shows about_period (read_period early (reader_of port old.scenario new.scenario) (reader_of port old.history new.history)
      (each_of (week_readers port) old.weeks.items new.weeks.items) (reader_if port old.given new.given)) (period_in at early paths)
  shows-period early paths old new is =
      shows-then about_period (shows-for_all (shows-ward paths old new is)) (λ ward.
      shows-then about_period (shows-all_weeks early ward paths.weeks.items old.weeks.items new.weeks.items is.weeks) (λ weeks.
      shows-then about_period (shows-for_all (shows-given ward.scenario (length weeks) paths.given old.given new.given is.given)) (λ given.
      shows-find about_period (λ (period : PeriodTables). period ≡ record { ward = ward; weeks = weeks; given = given }))))

  -- ---- the certificate

  shows-certificate : (s : ScenarioTables) (weeks : ℕ) (path : Option (String X)) (old new : Option F) → IsNewIfNamed port at path old →
      Shows about (read_proof s weeks (reader_if port old new)) (certificate_in at s weeks path)
  shows-certificate s weeks None None new is =
      shows-check about (IsFreeCertificate s weeks) (λ fault. fault ≡ Memory) (λ fault. ⊥) (λ fault of lacks. cc (of, ap about lacks))
      (λ fault of lacks. cc (of, ap about lacks))
  shows-certificate s weeks None (Some old) new is = absurd is
  shows-certificate s weeks (Some path) None new is = absurd is
  shows-certificate s weeks (Some path) (Some old) None is = shows-lost about (tt, λ found. tt)
  shows-certificate s weeks (Some path) (Some old) (Some new) is =
      shows-then about (shows-file names.Certificate (certificate s weeks) (content_of at path) (reader_of port old new)
      (told port at known path old new is) _ _ (λ found read. (lies (told port at known path old new is) read.0, read.1))) (λ found.
      shows-check about (λ same. (same ≡ found) × ¬ RepeatsFact found) _ (HasRepeatedFact found)
      (found-refused (HasRepeatedFact found)) (found-unwritten (HasRepeatedFact found) (λ fault repeats. ap about repeats.fault_is)))

  -- ---- the rosters

  shows-judged : (tables : InstanceTables) (past : Pasts) (path : String X) (old new : F) → IsNewAt port at path old →
      Shows about (judge_week tables past (reader_of port old new)) (judged_in at tables past path)
  shows-judged tables past path old new is =
      let week = after (problem_of tables) past in
      shows-then about (shows-same about (λ _. ArePastsOf week) (IsBeyond week) (λ fault of beyond. cc (of, ap about beyond.is))) (λ _.
      shows-then about (shows-roster (told port at known path old new is) names.Solution tables) (λ roster.
      shows-same about _ (BreaksRule week (set_of roster)) (λ fault of breaks. cc (of, breaks-about week (set_of roster) fault breaks))))

  module _ (weeks : List InstanceTables) where
    shows-next_roster : (found : List RosterTables) (path : String X) (old new : F) → IsNewAt port at path old →
        {next : List RosterTables → PeriodStep (List RosterTables)} (onward : List RosterTables → PeriodStep (List RosterTables)) →
        ((roster : RosterTables) → Shows about_period (next (found ++ roster ∷ [])) (onward (found ++ roster ∷ []))) →
        Shows about_period (judge_next weeks found (reader_of port old new) >>= next)
        (for_some (slice_get weeks (length found)) λ week. for_week (length weeks) (length found)
        (judged_in at week (history_before (map problem_of weeks) (map set_of found)) path) >>= λ roster. onward (found ++ roster ∷ []))
    shows-next_roster found path old new is {next} onward more = either (slice_get weeks (length found))
      where
        past : Pasts
        past = history_before (map problem_of weeks) (map set_of found)

        either : (week : Option InstanceTables) →
            Shows about_period ((for_some week λ w. for_week (length weeks) (length found) (judge_week w past (reader_of port old new)) >>=
            λ roster. check (λ more. more ≡ found ++ roster ∷ []) (λ fault. ⊥)) >>= next)
            (for_some week λ w. for_week (length weeks) (length found) (judged_in at w past path) >>= λ roster. onward (found ++ roster ∷ []))
        either None = shows-all about_period (λ result ends. never-ends ends) tt
        either (Some week) =
            shows-made about_period (shows-for_week (length weeks) (length found) (shows-judged week past path old new is))
            (λ roster. found ++ roster ∷ []) (λ fault never. absurd never) {next = next} {onward = λ roster. onward (found ++ roster ∷ [])} more

    shows-rosters : (paths : List (String X)) (olds news : List F) → InPairs (IsNewAt port at) paths olds → (found : List RosterTables) →
        Shows about_period (in_turn (judge_next weeks) found (each_of (reader_of port) olds news)) (rosters_in at weeks found paths)
    unfolding in_turn each_of rosters_in
    shows-rosters [] [] news pairs found = shows-find about_period (λ end. end ≡ found)
    shows-rosters [] (old ∷ olds) news pairs found = absurd pairs
    shows-rosters (path ∷ paths) [] news pairs found = absurd pairs
    shows-rosters (path ∷ paths) (old ∷ olds) [] pairs found =
        shows-lost about_period (shows-next_roster found path old old pairs.0
        {next = λ more. in_turn (judge_next weeks) more (each_of (reader_of port) olds [])} (λ more. rosters_in at weeks more paths)
        (λ roster. shows-rosters paths olds [] pairs.1 (found ++ roster ∷ []))).idle
    shows-rosters (path ∷ paths) (old ∷ olds) (new ∷ news) pairs found =
        shows-next_roster found path old new pairs.0 (λ more. rosters_in at weeks more paths)
        (λ roster. shows-rosters paths olds news pairs.1 (found ++ roster ∷ []))

    module _ (given : GivenTables) where
      shows-plan : (paths : List (String X)) (olds news : List F) → InPairs (IsNewAt port at) paths olds →
          Shows about_period (judge_plan weeks given (each_of (reader_of port) olds news)) (plan_in at weeks given paths)
      unfolding each_of
      shows-plan [] [] news pairs = shows-find about_period (λ judged. judged ≡ None)
      shows-plan [] (old ∷ olds) news pairs = absurd pairs
      shows-plan (path ∷ paths) [] news pairs = absurd pairs
      shows-plan (path ∷ paths) (old ∷ olds) [] pairs =
          shows-then about_period (shows-room about_period (shows-rosters (path ∷ paths) (old ∷ olds) [] pairs []) lacks-memory) (shows-met weeks given)
      shows-plan (path ∷ paths) (old ∷ olds) (new ∷ news) pairs =
          shows-then about_period (shows-room about_period (shows-rosters (path ∷ paths) (old ∷ olds) (new ∷ news) pairs []) lacks-memory) (shows-met weeks given)

  -- ---- the whole run

  module _ (question : Question) (paths : PeriodFiles (String X)) (old new : PeriodFiles F) (is : IsNewPeriod port at paths old) (out : Writer) where
    -- the run finds the answer of the files, and sends its text
    pub writes-answer : Writes about_period (IsUntouched out) (λ answer. WritesText out (bound_text answer))
        (λ answer fault. (fault ≡ Run Write) × WritesBeginning out (bound_text answer))
        (bound_run question (period_readers port old new) out) (answer_in at question paths)
    unfolding bound_run answer_in
    writes-answer =
        writes-then about_period (shows-period question.early paths old new is) (some_period paths) (λ period.
        writes-then about_period (shows-for_all
        (shows-certificate period.ward.scenario (length period.weeks) paths.proof old.proof new.proof is.proof)) (some_certificate paths) (λ certificate.
        writes-then about_period (shows-plan period.weeks period.given paths.rosters.items old.rosters.items new.rosters.items is.rosters) None (λ judged.
        writes-last about_period (shows-check about_period (IsAnswer question.minimums period.weeks period.given.conditions certificate judged)
        (λ fault. fault ≡ Run Memory) (λ fault. ⊥) (λ fault of lacks. cc (of, lacks-memory fault lacks))
        (λ fault of lacks. cc (of, lacks-memory fault lacks))) some_answer
        (λ answer idle. idle) (λ answer sent. sent)
        (λ answer fault fails. (ap about_period fails.1 ∙ ap about fails.2.0, (fails.1 ∙ ap Run fails.2.0, fails.2.1))))))
