-- The weeks of a period make a period.
use Rattle.std.proofs.Common.{◌≡◌, ℕ, ◌+◌, ◌<◌, ◌≤◌, ap, sym, ◌∙◌, subst, arith, List, [], ◌∷◌, ◌++◌, length, map, ◌==◌}
use Rattle.std.specs.Prelude.{Bool, false, slice_index_or}
use Rattle.std.proofs.lemmas.Bool.Decides.{nat_tests}
use Rattle.rota_core.specs.Defaults.{no_past}
use Rattle.rota_core.specs.WeekTables.{HistoryTables}
use Rattle.rota_core.specs.declared.values.Past.{Past}
use Rattle.rota_core.specs.InstanceTables.{InstanceTables, problem_of}
use Rattle.rota_core.specs.declared.certificate.Certificate.{Certificate}
use Rattle.rota_core.specs.declared.certificate.Condition.{Condition}
use Rattle.rota_core.specs.Certificates.{AreConditionsFor}
use Rattle.rota_core.specs.Limits.{max_number}
use Rattle.rota_core.specs.ScenarioTables.{ScenarioTables, numbers_of}
use Rattle.rota_certificate_read.specs.CertificateLayout.{IsCertificateOf}
use Rattle.rota_certificate.specs.PeriodBounds.{AreEvidence, AreGivenFor, IsForWeeks, IsPeriod}
use Rattle.rota_certificate.specs.Periods.{AreOfOneWard, Continue}
use Rattle.rota_bound_run.specs.FittingPeriods.{FitsWard}
use Rattle.rota_bound_run.specs.PeriodRead.{PeriodTables}
use Rattle.rota_bound_run.specs.WeeksRead.{AreWeeksFrom, IsWeekAt}
use Rattle.rota_bound_run.specs.declared.ward.Ward.{Ward}

differs : (a b : ℕ) → a < b → (a == b) ≡ false
differs a b less = grind (arith, nat_tests)

module _ (early : Bool) (ward : Ward) where
  -- one more week
  pub weeks-more : (later : ℕ) (weeks : List InstanceTables) (week : InstanceTables) → AreWeeksFrom early ward later weeks →
      IsWeekAt early ward (later + length weeks) week → AreWeeksFrom early ward later (weeks ++ week ∷ [])
  unfolding AreWeeksFrom
  weeks-more later [] week are is = (subst (λ (n : ℕ). IsWeekAt early ward n week) (omega arith) is, tt)
  weeks-more later (first ∷ rest) week are is =
      (are.0, weeks-more (later + 1) rest week are.1 (subst (λ (n : ℕ). IsWeekAt early ward n week) (omega arith) is))

  -- a week is of the ward of the one before it
  one-ward : (later : ℕ) (one other : InstanceTables) → IsWeekAt early ward later one → IsWeekAt early ward (later + 1) other →
      AreOfOneWard (problem_of one) (problem_of other)
  one-ward later one other is next =
      let same : one.scenario ≡ other.scenario = is.scenario ∙ sym next.scenario in
      let before = ap (λ (h : HistoryTables). h.past) is.history in
      let after = ap (λ (h : HistoryTables). h.past) next.history in
      record {
        numbers = ap numbers_of same;
        is_early = is.is_early ∙ sym next.is_early;
        limits = λ s. ap (λ (t : ScenarioTables). (problem_of (record one { scenario = t })).limits s) same;
        contract = λ n. ap (λ (t : ScenarioTables). (problem_of (record one { scenario = t })).contract n) same;
        past = λ n. ap (λ (pasts : List Past). slice_index_or pasts n no_past) (before ∙ sym after);
      }

  -- if another week comes, the week is not the last
  not-last : (later : ℕ) (one other : InstanceTables) → IsWeekAt early ward later one → IsWeekAt early ward (later + 1) other →
      (problem_of one).is_last ≡ false
  not-last later one other is next =
      let here = ap (λ (h : HistoryTables). h.week) is.history in
      let weeks = ap (λ (t : ScenarioTables). t.weeks) is.scenario in
      differs (one.history.week + 1) one.scenario.weeks (omega (arith, here, weeks, next.spanned))

  first-week : (first : InstanceTables) (rest : List InstanceTables) → AreWeeksFrom early ward 0 (first ∷ rest) → IsWeekAt early ward 0
      first
  unfolding AreWeeksFrom
  first-week first rest are = are.0

  continue : (later : ℕ) (first : InstanceTables) (rest : List InstanceTables) → AreWeeksFrom early ward later (first ∷ rest) →
      Continue (problem_of first) (map problem_of rest)
  unfolding AreWeeksFrom Continue
  continue later first [] are = tt
  continue later first (next ∷ rest) are =
      (not-last later first next are.0 are.1.0, one-ward later first next are.0 are.1.0, continue (later + 1) next rest are.1)

  -- the last week is within the scenario
  within : (later : ℕ) (first : InstanceTables) (rest : List InstanceTables) → AreWeeksFrom early ward later (first ∷ rest) →
      ward.history.week + later + length rest < ward.scenario.weeks
  unfolding AreWeeksFrom
  within later first [] are = omega (arith, are.0.spanned)
  within later first (next ∷ rest) are = omega (arith, within (later + 1) next rest are.1)

  pub is-period : (weeks : List InstanceTables) → AreWeeksFrom early ward 0 weeks → IsPeriod weeks
  is-period [] are = record { count = omega arith; period = tt }
  is-period (first ∷ rest) are =
      record {
        count = omega (arith, within 0 first rest are, (first-week first rest are).few);
        period = continue 0 first rest are;
      }

  given-for : (weeks : List InstanceTables) (given : List Condition) → AreWeeksFrom early ward 0 weeks → 0 < length weeks →
      AreConditionsFor (numbers_of ward.scenario) (length weeks) given → length given ≤ max_number → AreGivenFor weeks given
  given-for [] given are some conditions few = absurd (omega (arith, some))
  given-for (first ∷ rest) given are some conditions few = record {
    each =
        subst (λ (t : ScenarioTables). AreConditionsFor (numbers_of t) (length (first ∷ rest)) given) (sym
        (first-week first rest are).scenario) conditions;
    few = few;
  }

  for-weeks : (weeks : List InstanceTables) (certificate : Certificate) → AreWeeksFrom early ward 0 weeks → 0 < length weeks →
      IsCertificateOf ward.scenario (length weeks) certificate → IsForWeeks weeks certificate
  for-weeks [] certificate are some fits = absurd (omega (arith, some))
  for-weeks (first ∷ rest) certificate are some fits = fits.each first (first-week first rest are).scenario

-- the given facts are about the plans of a period that was read, and the certificate is evidence for them
module _ (early : Bool) (period : PeriodTables) (fits : FitsWard early period) (some : 0 < length period.weeks) where
  pub are-given : AreGivenFor period.weeks period.given.conditions
  are-given = given-for early period.ward period.weeks period.given.conditions fits.weeks some fits.given fits.few

  pub are-evidence : (certificate : Certificate) (count : ℕ) → count ≡ length period.weeks →
      IsCertificateOf period.ward.scenario count certificate → AreEvidence period.weeks period.given.conditions certificate
  are-evidence certificate count same fits_weeks = record {
    period = is-period early period.ward period.weeks fits.weeks;
    given_for = are-given;
    is_for = for-weeks early period.ward period.weeks certificate fits.weeks some (rw same at fits_weeks);
  }
