-- The cost of a plan by its parts: the places and the nurses.
use Rattle.std.proofs.Common.{◌≡◌, ℕ, ◌+◌, ◌*◌, ap, refl, arith, [], ◌∷◌}
use Rattle.std.specs.List.{AllByRecursion, sum_by}
use Rattle.std.proofs.lemmas.List.Sums.{sum_by-cons}
use Rattle.rota_core.specs.SumsBelow.{sum_below}
use Rattle.rota_core.specs.declared.certificate.ChargeKind.{ChargeKind}
use Rattle.rota_core.specs.declared.certificate.ChargeKind.TheVariants.{Assignments, ShiftRuns, Weekends, WorkDays}
use Rattle.rota_rules.specs.Penalty.{penalty}
use Rattle.rota_rules.specs.OptimalCoverage.{optimum_cost}
use Rattle.rota_certificate.specs.Facts.{charges_in_week, charges_of_nurse}
use Rattle.rota_certificate.specs.NurseCosts.{fixed_cost, nurse_cost, tariff_cost}
use Rattle.rota_certificate.specs.Plans.{Plan, PlannedWeek, plan_cost}
use Rattle.rota_certificate.specs.declared.tariffs.Tariff.{Tariff}
use Rattle.rota_certificate.proofs.ParityPart.{penalty-is, penalty-tenths, rules_tariff, tenths, week_cost, week_cost-is}
use Rattle.rota_certificate.proofs.Sums.{sum_below-plus, sum_below-same, sum-times, sum_below-zero}

-- the cost of the places of all weeks, by S1
abbrev pub optimum_of : Plan → ℕ
optimum_of plan = sum_by (λ one. optimum_cost one.week one.roster) plan

-- the cost of the nurse in all weeks by the charges that no case limits
abbrev pub fixed_of : Plan → (nurse : ℕ) → ℕ
fixed_of plan n = sum_by (λ one. fixed_cost one.week one.roster n) plan

-- each week has this number of nurses
abbrev pub HaveNurses : ℕ → Plan → Type 0
HaveNurses nurses plan = AllByRecursion (λ one. one.week.nurses ≡ nurses) plan

-- a nurse's cost by her charges
pub nurse_cost-is : (unit : ℕ) (tariff : Tariff) (plan : Plan) (n : ℕ) →
    nurse_cost unit tariff plan n ≡
    tariff.shift_runs * charges_of_nurse ShiftRuns plan n + tariff.work_days * charges_of_nurse WorkDays plan n +
    tariff.assignments * charges_of_nurse Assignments plan n + tariff.weekends * charges_of_nurse Weekends plan n + unit * fixed_of plan n
nurse_cost-is unit tariff [] n = omega arith
nurse_cost-is unit tariff (one ∷ plan) n =
    let cost = sum_by-cons (λ (two : PlannedWeek). tariff_cost tariff two.week two.roster n + unit * fixed_cost two.week two.roster n) one plan in
    let count : (kind : ChargeKind) → charges_of_nurse kind (one ∷ plan) n ≡ charges_in_week kind one.week one.roster n + charges_of_nurse kind plan n =
    λ kind. sum_by-cons (λ (two : PlannedWeek). charges_in_week kind two.week two.roster n) one plan in
    let fixed = sum_by-cons (λ (two : PlannedWeek). fixed_cost two.week two.roster n) one plan in
    omega (
      arith,
      cost,
      nurse_cost-is unit tariff plan n,
      ap (λ (x : ℕ). tariff.shift_runs * x) (count ShiftRuns),
      ap (λ (x : ℕ). tariff.work_days * x) (count WorkDays),
      ap (λ (x : ℕ). tariff.assignments * x) (count Assignments),
      ap (λ (x : ℕ). tariff.weekends * x) (count Weekends),
      ap (λ (x : ℕ). unit * x) fixed,
    )

-- the cost of the plan is the cost of its places and of its nurses
pub plan_cost-is : (unit nurses : ℕ) (plan : Plan) → HaveNurses nurses plan →
    unit * plan_cost plan ≡ unit * optimum_of plan + sum_below nurses (nurse_cost unit (rules_tariff unit) plan)
plan_cost-is unit nurses [] have =
    omega (arith, sum_below-zero nurses (nurse_cost unit (rules_tariff unit) []) (λ n _. refl))
plan_cost-is unit nurses (one ∷ plan) have =
    let cost = sum_by-cons (λ (two : PlannedWeek). penalty two.week two.roster) one plan in
    let optimum = sum_by-cons (λ (two : PlannedWeek). optimum_cost two.week two.roster) one plan in
    let here = ap (λ (x : ℕ). unit * x) (penalty-is one.week one.roster) in
    let count = ap (λ (m : ℕ). unit * sum_below m (week_cost one.week one.roster)) have.0 in
    let times = sum-times nurses unit (week_cost one.week one.roster) in
    let each = sum_below-same nurses (λ n. unit * week_cost one.week one.roster n)
    (λ n. tariff_cost (rules_tariff unit) one.week one.roster n + unit * fixed_cost one.week one.roster n) (λ n _. week_cost-is one.week one.roster unit n) in
    let both = sum_below-same nurses (nurse_cost unit (rules_tariff unit) (one ∷ plan))
    (λ n. (tariff_cost (rules_tariff unit) one.week one.roster n + unit * fixed_cost one.week one.roster n) + nurse_cost unit (rules_tariff unit) plan n)
    (λ n _. sum_by-cons (λ (two : PlannedWeek). tariff_cost (rules_tariff unit) two.week two.roster n + unit * fixed_cost two.week two.roster n) one plan) in
    let parts = sum_below-plus nurses (λ n. tariff_cost (rules_tariff unit) one.week one.roster n + unit * fixed_cost one.week one.roster n)
    (nurse_cost unit (rules_tariff unit) plan) in
    omega (
      arith,
      ap (λ (x : ℕ). unit * x) cost,
      ap (λ (x : ℕ). unit * x) optimum,
      here,
      count,
      times,
      each,
      both,
      parts,
      plan_cost-is unit nurses plan have.1,
    )

-- the cost of the plan is 15 for each charge of a shift run, and a multiple of 10
pub plan-tenths : (nurses : ℕ) (plan : Plan) → HaveNurses nurses plan →
    (rest : ℕ) × (plan_cost plan ≡ 15 * sum_below nurses (charges_of_nurse ShiftRuns plan) + 10 * rest)
plan-tenths nurses [] have = (0, omega (arith, sum_below-zero nurses (charges_of_nurse ShiftRuns []) (λ n _. refl)))
plan-tenths nurses (one ∷ plan) have =
    let later = plan-tenths nurses plan have.1 in
    let cost = sum_by-cons (λ (two : PlannedWeek). penalty two.week two.roster) one plan in
    let here = penalty-tenths one.week one.roster in
    let count = ap (λ (m : ℕ). sum_below m (charges_in_week ShiftRuns one.week one.roster)) have.0 in
    let both = sum_below-same nurses (charges_of_nurse ShiftRuns (one ∷ plan))
    (λ n. charges_in_week ShiftRuns one.week one.roster n + charges_of_nurse ShiftRuns plan n)
    (λ n _. sum_by-cons (λ (two : PlannedWeek). charges_in_week ShiftRuns two.week two.roster n) one plan) in
    let parts = sum_below-plus nurses (charges_in_week ShiftRuns one.week one.roster) (charges_of_nurse ShiftRuns plan) in
    (tenths one.week one.roster + later.0, omega (arith, cost, here, count, both, parts, later.1))
