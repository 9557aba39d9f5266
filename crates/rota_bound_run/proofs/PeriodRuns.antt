-- Runs for several weeks: the step at which a run stops, and the files that it does not touch.
use Rattle.std.proofs.Common.{◌≡◌, ℕ, ◌<◌, refl, ap, sym, ◌∙◌, subst, arith, List, [], ◌∷◌, ◌++◌, ◌==◌, length, map, Result, Ok, Err}
use Rattle.std.specs.Prelude.{Bool, Option, Some, None, slice_get}
use Rattle.std.specs.Prelude.{false, true}
use Rattle.std.proofs.lemmas.Bool.Decides.{nat_tests}
use Rattle.rota_core.specs.InstanceTables.{InstanceTables, problem_of}
use Rattle.rota_core.specs.RosterTables.{RosterTables, set_of}
use Rattle.rota_core.specs.ScenarioTables.{ScenarioTables}
use Rattle.rota_core.specs.declared.certificate.Certificate.{Certificate}
use Rattle.byte_ports.specs.declared.ports.Source.{Ghosts}
use Rattle.rota_certificate.specs.Plans.{Pasts}
use Rattle.rota_certificate_read.specs.FactsLayout.{GivenTables}
use Rattle.rota_pb.specs.PeriodFaults.{fault_in_week}
use Rattle.rota_pb.specs.RunPorts.{Reader, reader_of}
use Rattle.rota_pb.specs.Steps.{◌>>=◌, check, stopped, went_on}
use Rattle.rota_pb.specs.declared.fault.Fault.{Fault}
use Rattle.rota_pb.specs.declared.period_fault.PeriodFault.{PeriodFault}
use Rattle.rota_bound_run.specs.CertificateRead.{read_proof}
use Rattle.rota_bound_run.specs.Judging.{history_before, judge_week}
use Rattle.rota_bound_run.specs.PeriodFiles.{each_of, reader_if, week_readers}
use Rattle.rota_bound_run.specs.PeriodRead.{PeriodTables, read_given, read_next, read_weeks}
use Rattle.rota_bound_run.specs.PeriodSteps.{Optional, PeriodStep, for_week}
use Rattle.rota_bound_run.specs.PlanJudged.{for_some, judge_all, judge_next, judge_plan, meet_given}
use Rattle.rota_bound_run.specs.declared.answer.PeriodAnswer.{PeriodAnswer}
use Rattle.rota_bound_run.specs.declared.files.PeriodFiles.{PeriodFiles}
use Rattle.rota_bound_run.specs.declared.files.WeekFiles.{WeekFiles}
use Rattle.rota_bound_run.specs.declared.judged.Judged.{Judged}
use Rattle.rota_bound_run.specs.declared.ward.Ward.{Ward}
use Rattle.rota_bound_run.proofs.InTurn.{none-touched}
use Rattle.rota_bound_run.proofs.WeekSteps.{reads-no-week}

module _ {S : Type 0} (port : Ghosts S) where
  pub gives-none : (s : ScenarioTables) (weeks : ℕ) (file : Option S) → (read_given s weeks (reader_if port file file)).untouched
  gives-none s weeks None = tt
  gives-none s weeks (Some file) = refl

  pub proves-none : (s : ScenarioTables) (weeks : ℕ) (file : Option S) → (read_proof s weeks (reader_if port file file)).untouched
  proves-none s weeks None = tt
  proves-none s weeks (Some file) = (refl, λ found. tt)

  pub reads-no-weeks : (early : Bool) (ward : Ward) (files : List (WeekFiles S)) → (read_weeks early ward
      (each_of (week_readers port) files files)).untouched
  reads-no-weeks early ward files =
      let count = length (each_of (week_readers port) files files) in
      none-touched (read_next early ward count) (week_readers port) [] files (reads-no-week port early ward count) [] files

  some-none : (weeks : List InstanceTables) (rosters : List RosterTables) (week : Option InstanceTables) (file : S) →
      week ≡ slice_get weeks (length rosters) → (judge_next weeks rosters (reader_of port file file)).untouched
  some-none weeks rosters None file is = rw (← is) tt
  some-none weeks rosters (Some week) file is = rw (← is) ((tt, λ judged. (refl, λ roster. tt)), λ roster. tt)

  pub judges-no-roster : (weeks : List InstanceTables) (rosters : List RosterTables) (file : S) → (judge_next weeks rosters
      (reader_of port file file)).untouched
  judges-no-roster weeks rosters file = some-none weeks rosters (slice_get weeks (length rosters)) file refl

  pub judges-none : (weeks : List InstanceTables) (given : GivenTables) (files : List S) → (judge_plan weeks given
      (each_of (reader_of port) files files)).untouched
  unfolding each_of
  judges-none weeks given [] = tt
  judges-none weeks given (file ∷ files) = (
    (tt, λ _. none-touched (judge_next weeks) (reader_of port) [] (file ∷ files) (judges-no-roster weeks) [] (file ∷ files)),
    λ
        rosters. (tt, λ judged. tt),
  )

-- the step of given rosters
abbrev pub judge_some : List InstanceTables → GivenTables → List (Optional Reader) → PeriodStep (Option Judged)
judge_some weeks given readers =
    judge_all weeks readers >>= λ rosters. meet_given weeks given rosters >>= λ judged. check (λ found. found ≡ Some judged) (λ fault. ⊥)

module _ {S : Type 0} (port : Ghosts S) (weeks : List InstanceTables) (given : GivenTables) where
  -- with rosters
  pub judges-some : (olds news : List S) → 0 < length olds → (result : Result (Option Judged) PeriodFault) →
      (judge_some weeks given (each_of (reader_of port) olds news)).ends result →
      (judge_plan weeks given (each_of (reader_of port) olds news)).ends result
  unfolding each_of
  judges-some [] news some result ends = absurd (omega (arith, some))
  judges-some (old ∷ olds) [] some result ends = ends
  judges-some (old ∷ olds) (new ∷ news) some result ends = ends

  -- without rosters
  pub judges-no-rosters : (olds news : List S) → length olds ≡ 0 → (judge_plan weeks given (each_of (reader_of port) olds news)).ends (Ok
      None)
  unfolding each_of
  judges-no-rosters [] news none = refl
  judges-no-rosters (old ∷ olds) news none = absurd (omega (arith, none))

-- ---- a loop over the files of the rosters

-- the history before the next week
abbrev pub next_history : List InstanceTables → List RosterTables → Pasts
next_history weeks rosters = history_before (map problem_of weeks) (map set_of rosters)

module _ {S : Type 0} (port : Ghosts S) (weeks : List InstanceTables) (rosters : List RosterTables) (i : ℕ) (number : length rosters ≡ i)
    (week : InstanceTables) (at : slice_get weeks i ≡ Some week) (old new : S) where
  here : slice_get weeks (length rosters) ≡ Some week
  here = ap (λ (n : ℕ). slice_get weeks n) number ∙ at

  -- the step for the week
  abbrev step_of : InstanceTables → PeriodStep (List RosterTables)
  step_of one =
      for_week (length weeks) (length rosters) (judge_week one (next_history weeks rosters) (reader_of port old new)) >>= λ roster.
      check (λ more. more ≡ rosters ++ roster ∷ []) (λ fault. ⊥)

  -- one more roster is judged
  pub judges-roster : (roster : RosterTables) (more : List RosterTables) →
      (judge_week week (next_history weeks rosters) (reader_of port old new)).ends (Ok roster) → more ≡ rosters ++ roster ∷ [] →
      (judge_next weeks rosters (reader_of port old new)).ends (Ok more)
  judges-roster roster more ends is =
      subst (λ (one : Option InstanceTables). (for_some one step_of).ends (Ok more)) (sym here) (went_on roster ends is)

  -- the roster is refused
  pub stops-roster : (fault : Fault) → (judge_week week (next_history weeks rosters) (reader_of port old new)).ends (Err fault) →
      (judge_next weeks rosters (reader_of port old new)).ends (Err (fault_in_week (length weeks) i fault))
  stops-roster fault ends =
      subst (λ (one : Option InstanceTables). (for_some one step_of).ends (Err (fault_in_week (length weeks) i fault))) (sym here)
      (stopped (fault_in_week (length weeks) i fault) refl (
        fault,
        ap (λ (n : ℕ). fault_in_week (length weeks) n fault) (sym number),
        ends,
      ) (λ roster. tt))

pub is-zero : (n len : ℕ) (empty : Bool) → len ≡ n → empty ≡ (len == 0) → empty ≡ true → n ≡ 0
is-zero n len empty same is full = grind (arith, nat_tests)

pub not-zero : (n len : ℕ) (empty : Bool) → len ≡ n → empty ≡ (len == 0) → empty ≡ false → 0 < n
not-zero n len empty same is full = grind (arith, nat_tests)

-- ---- the number of weeks, counted in the code

-- the given facts are for all weeks
pub given-for-all : {n m : ℕ} (s : ScenarioTables) (file : Optional Reader) (result : Result GivenTables Fault) → n ≡ m →
    (read_given s n file).ends result → (read_given s m file).ends result
given-for-all s file result same ends = subst (λ (n : ℕ). (read_given s n file).ends result) same ends

-- the certificate is for all weeks
pub proof-for-all : {n m : ℕ} (s : ScenarioTables) (file : Optional Reader) (result : Result Certificate Fault) → n ≡ m →
    (read_proof s n file).ends result → (read_proof s m file).ends result
proof-for-all s file result same ends = subst (λ (n : ℕ). (read_proof s n file).ends result) same ends

-- ---- the rest of a run that stops after it read the period: its files and the writer are not touched

module _ {S W : Type 0} (port : Ghosts S) (files : PeriodFiles S) (out : W) where
  abbrev AnswerLeft : Type 0
  AnswerLeft = Unit {0} × (PeriodAnswer → out ≡ out)

  abbrev RostersLeft : PeriodTables → Type 0
  RostersLeft period =
      (judge_plan period.weeks period.given (each_of (reader_of port) files.rosters.items files.rosters.items)).untouched ×
      (Option Judged → AnswerLeft)

  abbrev ProofLeft : PeriodTables → Type 0
  ProofLeft period =
      (read_proof period.ward.scenario (length period.weeks) (reader_if port files.proof files.proof)).untouched ×
      (Certificate → RostersLeft period)

  pub left-answer : Option Judged → AnswerLeft
  left-answer judged = (tt, λ answer. refl)

  pub left-rosters : (period : PeriodTables) → Certificate → RostersLeft period
  left-rosters period certificate = (judges-none port period.weeks period.given files.rosters.items, left-answer)

  pub left-proof : (period : PeriodTables) → ProofLeft period
  left-proof period = (proves-none port period.ward.scenario (length period.weeks) files.proof, left-rosters period)
