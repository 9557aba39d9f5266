-- The nurses: a nurse's bound and the prices of her cells are at most her cost in the plan and the maximum price for each day.
use Rattle.std.proofs.Common.{◌≡◌, ℕ, ◌+◌, ◌-◌, ◌*◌, ◌<◌, ◌≤◌, ◌&&◌, ◌||◌, Bool, true, false, not, cond, refl, ap, sym, ◌∙◌, arith}
use Rattle.std.proofs.Common.{List, [], ◌∷◌, length, map}
use Rattle.std.specs.List.{AllByRecursion}
use Rattle.std.proofs.lemmas.List.Sums.{sum_by-cons}
use Rattle.rota_core.specs.HardRules.{KeepsHardRules}
use Rattle.rota_core.specs.Prices.{ArePrices, max_price}
use Rattle.rota_core.specs.Problem.{Problem}
use Rattle.rota_core.specs.Roster.{Roster}
use Rattle.rota_core.specs.Sizes.{DAYS, Numbers}
use Rattle.rota_core.specs.declared.certificate.ChargeKind.TheVariants.{Assignments, Weekends}
use Rattle.rota_core.specs.declared.values.Contract.{Contract}
use Rattle.rota_core.specs.declared.values.Past.{Past}
use Rattle.rota_rules.specs.CountedTotals.{added_excess}
use Rattle.rota_rules.specs.TotalAssignments.{assignment_weight, assignments_of, below_min_total}
use Rattle.rota_rules.specs.WorkedWeekends.{worked_weekend}
use Rattle.rota_certificate.specs.DayCharges.{start_cost}
use Rattle.rota_certificate.specs.Facts.{charges_in_week}
use Rattle.rota_certificate.specs.LeafBounds.{nurse_count}
use Rattle.rota_certificate.specs.NurseBounds.{LeafWeek, Terms, charge_totals, least_days, nurse_bound, pay_for_history, rest_after}
use Rattle.rota_certificate.specs.NurseCosts.{AllowsChoices, AllowsPlan, fixed_cost, nurse_cost, paid, paid_in_plan, tariff_cost}
use Rattle.rota_certificate.specs.Plans.{Pasts, KeepRules, PlannedWeek, after, history_after, plan_after, plan_of}
use Rattle.rota_certificate.specs.Periods.{ArePeriod, Continue}
use Rattle.rota_certificate.specs.declared.tariffs.Tariff.{Tariff}
use Rattle.rota_certificate.proofs.OtherHistories.{history-free, week_after}
use Rattle.rota_certificate.proofs.WeekDays.{days-bounded, totals_above, totals_charged, weighted-most}

-- the weeks without their prices
abbrev pub weeks_of : List LeafWeek → List Problem
weeks_of weeks = map (λ one. one.week) weeks

-- no price of a week is above the maximum
abbrev pub HavePrices : List LeafWeek → Type 0
HavePrices weeks = AllByRecursion (λ one. ArePrices one.prices) weeks

-- ---- the totals of a week

-- the excess for which a week pays, by the two facts on which it depends
abbrev excess_for : (is_early is_last : Bool) → (maximum before now : ℕ) → ℕ
excess_for is_early is_last maximum before now = cond is_early (added_excess maximum before now) (cond is_last (before + now - maximum) 0)

-- the past after a week with these totals
abbrev with_totals : Past → (assigned worked : ℕ) → Past
with_totals past assigned worked = record past { assignments = past.assignments + assigned; weekends = past.weekends + worked }

-- the cost of the excess of a week's totals
abbrev excess_cost : (is_early is_last : Bool) → Tariff → Contract → Past → (assigned worked : ℕ) → ℕ
excess_cost is_early is_last tariff contract past assigned worked =
    tariff.assignments * excess_for is_early is_last contract.total.max past.assignments assigned +
    tariff.weekends * excess_for is_early is_last contract.weekends past.weekends worked

-- the cost of the past's excess, if the last week pays for it
abbrev due : (is_early is_last : Bool) → Tariff → Contract → Past → ℕ
due is_early is_last tariff contract past = totals_charged (not is_early && is_last) tariff contract past

-- the costs of the totals that have passed their maximums, if any week pays for them
abbrev passed : (is_early is_last : Bool) → Tariff → Contract → Past → ℕ
passed is_early is_last tariff contract past = totals_charged (is_early || is_last) tariff contract past

-- with `--early`, the week pays for the excess that it adds
excess-early : (is_last : Bool) (tariff : Tariff) (contract : Contract) (past : Past) (assigned worked : ℕ) →
    totals_above tariff contract (with_totals past assigned worked) ≡
    excess_cost true is_last tariff contract past assigned worked + totals_above tariff contract past
excess-early is_last tariff contract past assigned worked =
    let a : past.assignments + assigned - contract.total.max ≡
    added_excess contract.total.max past.assignments assigned + (past.assignments - contract.total.max) = omega arith in
    let w : past.weekends + worked - contract.weekends ≡
    added_excess contract.weekends past.weekends worked + (past.weekends - contract.weekends) = omega arith in
    omega (arith, ap (λ (c : ℕ). tariff.assignments * c) a, ap (λ (c : ℕ). tariff.weekends * c) w)

-- the last of the weeks pays for the past's excess, if that is due, and for the excess that it adds
excess-last : (is_early is_last : Bool) (tariff : Tariff) (contract : Contract) (past : Past) (assigned worked : ℕ) →
    due is_early is_last tariff contract past + passed is_early is_last tariff contract (with_totals past assigned worked) ≡
    excess_cost is_early is_last tariff contract past assigned worked + passed is_early is_last tariff contract past
excess-last true is_last tariff contract past assigned worked = omega (arith, excess-early is_last tariff contract past assigned worked)
excess-last false true tariff contract past assigned worked = omega arith
excess-last false false tariff contract past assigned worked = omega arith

-- an earlier week pays with `--early`, and otherwise leaves the excess due; `is_last` is about the last of the weeks
excess-earlier : (is_early is_last : Bool) (tariff : Tariff) (contract : Contract) (past : Past) (assigned worked : ℕ) →
    due is_early is_last tariff contract past + passed is_early is_last tariff contract (with_totals past assigned worked) ≡
    excess_cost is_early false tariff contract past assigned worked + passed is_early is_last tariff contract past +
    due is_early is_last tariff contract (with_totals past assigned worked)
excess-earlier true is_last tariff contract past assigned worked = omega (arith, excess-early false tariff contract past assigned worked)
excess-earlier false true tariff contract past assigned worked = omega arith
excess-earlier false false tariff contract past assigned worked = omega arith

-- ---- the weeks of a period

-- the facts about a week on which the charges of the nurse's totals depend
pub record IsCharged (is_early is_last : Bool) (contract : Contract) (n : ℕ) (week : Problem) : Type 0 where
  pub early : week.is_early ≡ is_early
  pub last : week.is_last ≡ is_last
  pub contract_is : week.contract n ≡ contract

-- the same facts about some weeks; `is_last` is about the last of them
AreCharged : (is_early is_last : Bool) → Contract → ℕ → LeafWeek → List LeafWeek → Type 0
AreCharged is_early is_last contract n one [] = IsCharged is_early is_last contract n one.week
AreCharged is_early is_last contract n one (next ∷ later) =
    IsCharged is_early false contract n one.week × AreCharged is_early is_last contract n next later

-- whether the last of the weeks is the last of the scenario
final_last : LeafWeek → List LeafWeek → Bool
final_last one [] = one.week.is_last
final_last one (next ∷ later) = final_last next later

are-charged : (is_early : Bool) (contract : Contract) (n : ℕ) (one : LeafWeek) (later : List LeafWeek) → one.week.is_early ≡ is_early →
    one.week.contract n ≡ contract → Continue one.week (weeks_of later) → AreCharged is_early (final_last one later) contract n one later
unfolding AreCharged final_last Continue
are-charged is_early contract n one [] early of_nurse period = record { early = early; last = refl; contract_is = of_nurse }
are-charged is_early contract n one (next ∷ later) early of_nurse period = (
  record { early = early; last = period.0; contract_is = of_nurse },
  are-charged is_early contract n next later (sym period.1.is_early ∙ early) (sym (period.1.contract n) ∙ of_nurse) period.2,
)

-- whether totals are charged, and whether the history is paid for, by the facts
one-charged : (is_early is_last : Bool) → ((is_early || is_last) || false) ≡ (is_early || is_last)
one-charged true is_last = refl
one-charged false true = refl
one-charged false false = refl

more-charged : (is_early is_last : Bool) → ((is_early || false) || (is_early || is_last)) ≡ (is_early || is_last)
more-charged true is_last = refl
more-charged false is_last = refl

one-pays : (is_early is_last : Bool) → ((not is_early && is_last) || false) ≡ (not is_early && is_last)
one-pays true is_last = refl
one-pays false true = refl
one-pays false false = refl

more-pay : (is_early is_last : Bool) → ((not is_early && false) || (not is_early && is_last)) ≡ (not is_early && is_last)
more-pay true is_last = refl
more-pay false is_last = refl

charge-is : (is_early is_last : Bool) (contract : Contract) (n : ℕ) (one : LeafWeek) (later : List LeafWeek) →
    AreCharged is_early is_last contract n one later → charge_totals (one ∷ later) ≡ (is_early || is_last)
unfolding AreCharged
charge-is is_early is_last contract n one [] are = rw (are.early, are.last) (one-charged is_early is_last)
charge-is is_early is_last contract n one (next ∷ later) are =
    rw (are.0.early, are.0.last, charge-is is_early is_last contract n next later are.1) (more-charged is_early is_last)

pay-is : (is_early is_last : Bool) (contract : Contract) (n : ℕ) (one : LeafWeek) (later : List LeafWeek) →
    AreCharged is_early is_last contract n one later → pay_for_history (one ∷ later) ≡ (not is_early && is_last)
unfolding AreCharged
pay-is is_early is_last contract n one [] are = rw (are.early, are.last) (one-pays is_early is_last)
pay-is is_early is_last contract n one (next ∷ later) are =
    rw (are.0.early, are.0.last, pay-is is_early is_last contract n next later are.1) (more-pay is_early is_last)

-- ---- one nurse

module _ (unit : ℕ) (tariff : Tariff) (n : ℕ) (is_early is_last : Bool) (contract : Contract) where
  abbrev terms : Terms
  terms = record { unit = unit; tariff = tariff; charged = is_early || is_last }

  abbrev cost_in : PlannedWeek → ℕ
  cost_in one = tariff_cost tariff one.week one.roster n + unit * fixed_cost one.week one.roster n

  -- the cost of the excess in the week, by the facts
  abbrev excess_of : (last_of_scenario : Bool) → Problem → Roster → ℕ
  excess_of last_of_scenario week roster =
      excess_cost is_early last_of_scenario tariff contract (week.past n) (assignments_of week roster n) (worked_weekend week roster n)

  excess-is : (last_of_scenario : Bool) (week : Problem) (roster : Roster) → IsCharged is_early last_of_scenario contract n week →
      tariff.assignments * charges_in_week Assignments week roster n + tariff.weekends * charges_in_week Weekends week roster n ≡
      excess_of last_of_scenario week roster
  excess-is last_of_scenario week roster is =
      ap (λ (early : Bool). excess_cost early week.is_last tariff (week.contract n) (week.past n) (assignments_of week roster n) (worked_weekend week roster n)) is.early ∙
      ap (λ (last : Bool). excess_cost is_early last tariff (week.contract n) (week.past n) (assignments_of week roster n) (worked_weekend week roster n)) is.last ∙
      ap (λ (of_nurse : Contract). excess_cost is_early last_of_scenario tariff of_nurse (week.past n) (assignments_of week roster n) (worked_weekend week roster n)) is.contract_is

  -- a week, and the time after it
  week-bounded : (one : LeafWeek) (history : Pasts) (roster : Roster) (last_of_scenario : Bool) (rest : Past → ℕ) → ArePrices one.prices →
      KeepsHardRules (after one.week history) roster → n < one.week.nurses →
      AllowsChoices one (record { week = after one.week history; roster = roster }) n →
      IsCharged is_early last_of_scenario contract n one.week →
      least_days terms one n rest DAYS (history n) + paid one.week one.prices roster n +
      passed is_early is_last tariff contract (history n) + excess_of last_of_scenario (after one.week history) roster +
      unit * (assignment_weight * below_min_total (after one.week history) roster n) ≤
      cost_in (record { week = after one.week history; roster = roster }) + DAYS * max_price +
      passed is_early is_last tariff contract (history_after (after one.week history) roster n) +
      rest (history_after (after one.week history) roster n)
  week-bounded one history roster last_of_scenario rest within keeps n_in allows is =
      let now = after one.week history in
      let free = history-free terms one n history rest DAYS (history n) in
      let bounded = days-bounded terms (week_after one history) roster n within keeps n_in allows rest in
      let before = ap (λ (of_nurse : Contract). passed is_early is_last tariff of_nurse (history n)) is.contract_is in
      let left = ap (λ (of_nurse : Contract). passed is_early is_last tariff of_nurse (history_after now roster n)) is.contract_is in
      let excess = excess-is last_of_scenario now roster (record { early = is.early; last = is.last; contract_is = is.contract_is }) in
      omega (arith, free, bounded, before, left, excess)

  weeks-bounded : (first : LeafWeek) (later : List LeafWeek) (rosters : List Roster) (history : Pasts) → HavePrices (first ∷ later) →
      Continue first.week (weeks_of later) → length rosters ≡ length (weeks_of (first ∷ later)) →
      AllByRecursion (λ one. KeepsHardRules one.week one.roster) (plan_after history (weeks_of (first ∷ later)) rosters) →
      n < first.week.nurses → AllowsPlan (first ∷ later) (plan_after history (weeks_of (first ∷ later)) rosters) n →
      AreCharged is_early is_last contract n first later →
      due is_early is_last tariff contract (history n) +
      least_days terms first n (rest_after terms first.week later n) DAYS (history n) +
      paid_in_plan (first ∷ later) (plan_after history (weeks_of (first ∷ later)) rosters) n ≤
      nurse_cost unit tariff (plan_after history (weeks_of (first ∷ later)) rosters) n + length (first ∷ later) * (DAYS * max_price)
  unfolding plan_after Continue AllowsPlan paid_in_plan AreCharged
  weeks-bounded first later [] history within period count keep n_in allows are = absurd (omega (arith, count))
  weeks-bounded first [] (roster ∷ rosters) history within period count keep n_in allows are =
      let now = after first.week history in
      let week = week-bounded first history roster is_last (rest_after terms first.week [] n) within.0 keep.0 n_in allows.0 are in
      let totals = excess-last is_early is_last tariff contract (history n) (assignments_of now roster n) (worked_weekend now roster n) in
      omega (arith, week, totals)
  weeks-bounded first (next ∷ later) (roster ∷ rosters) history within period count keep n_in allows are =
      let now = after first.week history in
      let left = history_after now roster in
      let week = week-bounded first history roster false (rest_after terms first.week (next ∷ later) n) within.0 keep.0 n_in allows.0 are.0 in
      let totals = excess-earlier is_early is_last tariff contract (history n) (assignments_of now roster n) (worked_weekend now roster n) in
      let inside : n < next.week.nurses = omega (arith, n_in, ap (λ (numbers : Numbers). numbers.nurses) period.1.numbers) in
      let rest = weeks-bounded next later rosters left within.1 period.2 (omega (arith, count)) keep.1 inside allows.1 are.1 in
      let sum = sum_by-cons cost_in (record { week = now; roster = roster }) (plan_after left (weeks_of (next ∷ later)) rosters) in
      omega (arith, week, totals, rest, sum)

start-charged : (pays : Bool) (tariff : Tariff) (contract : Contract) (past : Past) →
    cond pays (start_cost tariff contract past) 0 ≤ totals_charged pays tariff contract past
start-charged true tariff contract past =
    let assigned = weighted-most tariff.assignments (past.assignments - contract.total.max) (past.assignments - contract.total.max) refl in
    let worked = weighted-most tariff.weekends (past.weekends - contract.weekends) (past.weekends - contract.weekends) refl in
    omega (arith, assigned, worked)
start-charged false tariff contract past = omega arith

start-most : (pays other : Bool) (tariff : Tariff) (contract : Contract) (past : Past) → pays ≡ other →
    cond pays (start_cost tariff contract past) 0 ≤ totals_charged other tariff contract past
start-most pays other tariff contract past same =
    let e = ap (λ (b : Bool). cond b (start_cost tariff contract past) 0) same in
    omega (arith, e, start-charged other tariff contract past)

-- a nurse's bound and the prices of her cells are at most her cost, and the maximum price for each day
pub nurse-bounded : (unit : ℕ) (tariff : Tariff) (weeks : List LeafWeek) (rosters : List Roster) (n : ℕ) → HavePrices weeks →
    ArePeriod (weeks_of weeks) → KeepRules (weeks_of weeks) rosters → n < nurse_count weeks →
    AllowsPlan weeks (plan_of (weeks_of weeks) rosters) n →
    nurse_bound unit tariff weeks n + paid_in_plan weeks (plan_of (weeks_of weeks) rosters) n ≤
    nurse_cost unit tariff (plan_of (weeks_of weeks) rosters) n + length weeks * (DAYS * max_price)
nurse-bounded unit tariff [] rosters n within period keep n_in allows = absurd (omega (arith, n_in))
nurse-bounded unit tariff (first ∷ later) rosters n within period keep n_in allows =
    let is_early = first.week.is_early in
    let is_last = final_last first later in
    let contract = first.week.contract n in
    let are = are-charged is_early contract n first later refl refl period in
    let start = start-most (pay_for_history (first ∷ later)) (not is_early && is_last) tariff contract (first.week.past n)
    (pay-is is_early is_last contract n first later are) in
    let charged = ap (λ (b : Bool). least_days (record { unit = unit; tariff = tariff; charged = b }) first n
    (rest_after (record { unit = unit; tariff = tariff; charged = b }) first.week later n) DAYS (first.week.past n))
    (charge-is is_early is_last contract n first later are) in
    let bounded = weeks-bounded unit tariff n is_early is_last contract first later rosters first.week.past within period keep.count keep.keep n_in
    allows are in
    omega (arith, start, charged, bounded)
