-- The cost of a nurse's charges in a leaf. The surcharge of a condition "at most k charges" is added to the weight of these charges, and
-- the bound loses k times the surcharge. The surcharge of "more than k charges" is taken off, and the bound gains k + 1 times it.
use Rattle.std.specs.Prelude.{ℕ, ◌+◌, ◌-◌, ◌*◌, ◌==◌, ◌&&◌, Bool, true, false, nat_lt, ◌||◌, if◌then◌else◌, Option, Some, None, List, [], ◌∷◌}
use Rattle.std.specs.List.{list_any, sum_by}
use Rattle.std.specs.Option.{option_map_or}
use Rattle.rota_core.specs.SumsBelow.{any_below}
use Rattle.rota_core.specs.declared.certificate.ChargeKind.{ChargeKind}
use Rattle.rota_core.specs.declared.certificate.ChargeKind.TheVariants.{Assignments, ShiftRuns, Weekends, WorkDays}
use Rattle.rota_core.specs.declared.certificate.ChargeLimit.{ChargeLimit}
use Rattle.rota_core.specs.declared.certificate.Fact.{Fact}
use Rattle.rota_core.specs.declared.certificate.Fact.TheVariants.{Charges, EvenShiftRuns}
use Rattle.rota_rules.specs.ConsecutiveAssignments.{shift_run_weight, work_run_weight}
use Rattle.rota_rules.specs.TotalAssignments.{assignment_weight}
use Rattle.rota_rules.specs.WorkedWeekends.{worked_weekend_weight}
use Rattle.rota_certificate.specs.Facts.{Case}
use Rattle.rota_certificate.specs.Minimums.{not_allowed}
use Rattle.rota_certificate.specs.declared.limits.Limit.{Limit}
use Rattle.rota_certificate.specs.declared.limits.Limit.TheVariants.{AtMost, MoreThan}
use Rattle.rota_certificate.specs.declared.surcharges.Surcharged.{Surcharged}
use Rattle.rota_certificate.specs.declared.tariffs.Tariff.{Tariff}

-- the conditions with these surcharges, in order; a missing surcharge is 0
unfoldable pub surcharged : Case → (surcharges : List ℕ) → List Surcharged
surcharged [] surcharges = []
surcharged (condition ∷ case) [] = record { condition = condition; surcharge = 0 } ∷ surcharged case []
surcharged (condition ∷ case) (m ∷ surcharges) = record { condition = condition; surcharge = m } ∷ surcharged case surcharges

-- an odd number of charges of shift runs is more than 0 charges
abbrev pub no_shift_runs : ChargeLimit
no_shift_runs = record { kind = ShiftRuns; nurse = None; most = 0 }

-- the limit of a number of charges that a fact sets if it holds, or if it does not hold
abbrev pub limit_of : Fact → (holds : Bool) → Option Limit
limit_of (Charges limit) true = Some (AtMost limit)
limit_of (Charges limit) false = Some (MoreThan limit)
limit_of EvenShiftRuns false = Some (MoreThan no_shift_runs)
limit_of _ _ = None

-- whether two kinds are the same
abbrev pub is_kind : (one other : ChargeKind) → Bool
is_kind ShiftRuns ShiftRuns = true
is_kind WorkDays WorkDays = true
is_kind Assignments Assignments = true
is_kind Weekends Weekends = true
is_kind _ _ = false

-- whether the limit counts the nurse's charges of the kind
abbrev pub counts : ChargeLimit → ChargeKind → (nurse : ℕ) → Bool
counts limit kind n = is_kind limit.kind kind && option_map_or (λ one. one == n) limit.nurse true

-- the part that a limit with this surcharge adds to the weight of the nurse's charges of the kind
abbrev pub added_by : ChargeKind → (nurse surcharge : ℕ) → Limit → ℕ
added_by kind n m (AtMost limit) = (if counts limit kind n then m else 0)
added_by kind n m (MoreThan limit) = 0

-- the part that it takes off
abbrev pub taken_by : ChargeKind → (nurse surcharge : ℕ) → Limit → ℕ
taken_by kind n m (AtMost limit) = 0
taken_by kind n m (MoreThan limit) = (if counts limit kind n then m else 0)

-- the loss of the bound by it
abbrev pub lost_by : (surcharge : ℕ) → Limit → ℕ
lost_by m (AtMost limit) = m * limit.most
lost_by m (MoreThan limit) = 0

-- the gain of the bound by it
abbrev pub gained_by : (surcharge : ℕ) → Limit → ℕ
gained_by m (AtMost limit) = 0
gained_by m (MoreThan limit) = m * (limit.most + 1)

-- whether the limit forbids the nurse's charges of the kind: it allows at most 0
abbrev pub forbidden_by : ChargeKind → (nurse : ℕ) → Limit → Bool
forbidden_by kind n (AtMost limit) = counts limit kind n && limit.most == 0
forbidden_by kind n (MoreThan limit) = false

-- a number that each limit gives, summed over the conditions
abbrev pub over_limits : ((surcharge : ℕ) → Limit → ℕ) → List Surcharged → ℕ
over_limits f case = sum_by (λ one. option_map_or (f one.surcharge) (limit_of one.condition.fact one.condition.holds) 0) case

-- the sum that all limits add to the weight
abbrev pub added : List Surcharged → ChargeKind → (nurse : ℕ) → ℕ
added case kind n = over_limits (added_by kind n) case

-- the sum that they take off it
abbrev pub taken : List Surcharged → ChargeKind → (nurse : ℕ) → ℕ
taken case kind n = over_limits (taken_by kind n) case

-- whether a limit forbids the nurse's charges of the kind
abbrev pub is_forbidden : List Surcharged → ChargeKind → (nurse : ℕ) → Bool
is_forbidden case kind n =
    list_any (λ one. option_map_or (forbidden_by kind n) (limit_of one.condition.fact one.condition.holds) false) case

-- the weight of a charge by the rules, in points
abbrev pub points_of : ChargeKind → ℕ
points_of ShiftRuns = shift_run_weight
points_of WorkDays = work_run_weight
points_of Assignments = assignment_weight
points_of Weekends = worked_weekend_weight

-- the weight of the nurse's charges of the kind in the leaf. `unit` is the value of a point: 1000, or 0 if the soft rules are left out
abbrev pub weight : (unit : ℕ) → List Surcharged → ChargeKind → (nurse : ℕ) → ℕ
weight unit case kind n = (if is_forbidden case kind n then not_allowed else (unit * points_of kind + added case kind n) - taken case kind n)

-- the tariff of the nurse in the leaf
abbrev pub tariff_of : (unit : ℕ) → List Surcharged → (nurse : ℕ) → Tariff
tariff_of unit case n = record {
  shift_runs = weight unit case ShiftRuns n;
  work_days = weight unit case WorkDays n;
  assignments = weight unit case Assignments n;
  weekends = weight unit case Weekends n;
}

-- whether the surcharges make the weight of the nurse's charges of the kind negative
abbrev pub is_overdrawn : (unit : ℕ) → List Surcharged → ChargeKind → (nurse : ℕ) → Bool
is_overdrawn unit case kind n = nat_lt (unit * points_of kind + added case kind n) (taken case kind n)

-- whether they make any weight of the nurse negative
abbrev pub has_overdrawn_weight : (unit : ℕ) → List Surcharged → (nurse : ℕ) → Bool
has_overdrawn_weight unit case n =
    is_overdrawn unit case ShiftRuns n || is_overdrawn unit case WorkDays n || is_overdrawn unit case Assignments n ||
    is_overdrawn unit case Weekends n

-- whether they make any weight of any nurse negative
abbrev pub has_overdrawn : (unit : ℕ) → List Surcharged → (nurses : ℕ) → Bool
has_overdrawn unit case nurses = any_below nurses (has_overdrawn_weight unit case)

-- the loss of the leaf's bound
abbrev pub lost : List Surcharged → ℕ
lost case = over_limits lost_by case

-- its gain
abbrev pub gained : List Surcharged → ℕ
gained case = over_limits gained_by case
