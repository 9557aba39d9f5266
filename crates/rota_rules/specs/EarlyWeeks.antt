-- The charges of consecutive weeks for a maximum total, if each week pays for the excess that it adds.
use Rattle.std.specs.Prelude.{◌≡◌, ℕ, ◌+◌, true, List, [], ◌∷◌}
use Rattle.std.specs.List.{sum_by}
use Rattle.rota_core.specs.Roster.{Roster}
use Rattle.rota_core.specs.Problem.{Problem}
use Rattle.rota_rules.specs.CountedTotals.{added_excess}
use Rattle.rota_rules.specs.TotalAssignments.{assignments_of}
use Rattle.rota_rules.specs.WorkedWeekends.{worked_weekend}

-- the excess that all the weeks charge, if each starts with the total at the end of the week before
abbrev pub early_charges : ℕ → ℕ → List ℕ → ℕ
early_charges maximum before [] = 0
early_charges maximum before (now ∷ later) = added_excess maximum before now + early_charges maximum (before + now) later

-- a total that is kept from week to week: its value before a week, the addition of a roster, and its maximum
pub record CountedTotal : Type 0 where
  pub before : Problem → ℕ
  pub now : Problem → Roster → ℕ
  pub maximum : Problem → ℕ

-- a nurse's assignments, which S6 limits
abbrev pub assignment_total : ℕ → CountedTotal
assignment_total n = record {
  before = λ problem. (problem.past n).assignments;
  now = λ problem roster. assignments_of problem roster n;
  maximum = λ problem. (problem.contract n).total.max;
}

-- a nurse's worked weekends, which S7 limits
abbrev pub weekend_total : ℕ → CountedTotal
weekend_total n = record {
  before = λ problem. (problem.past n).weekends;
  now = λ problem roster. worked_weekend problem roster n;
  maximum = λ problem. (problem.contract n).weekends;
}

-- a week and its roster
pub record RosteredWeek : Type 0 where
  pub week : Problem
  pub roster : Roster

-- the addition of the roster to the total
abbrev pub added_in : CountedTotal → RosteredWeek → ℕ
added_in total one = total.now one.week one.roster

-- the total before the next week is the total after this one, and its maximum is the same
pub record Continues (total : CountedTotal) (one next : RosteredWeek) : Type 0 where
  pub before : total.before next.week ≡ total.before one.week + added_in total one
  pub maximum : total.maximum next.week ≡ total.maximum one.week

-- each week is charged early and continues the one before it
abbrev pub FollowEarly : CountedTotal → RosteredWeek → List RosteredWeek → Type 0
FollowEarly total one [] = one.week.is_early ≡ true
FollowEarly total one (next ∷ later) =
    (one.week.is_early ≡ true) × Continues total one next × FollowEarly total next later

-- the excess above the maximum after all the weeks, less the excess before the first
abbrev pub added_by_all : CountedTotal → RosteredWeek → List RosteredWeek → ℕ
added_by_all total one later =
    added_excess (total.maximum one.week) (total.before one.week) (sum_by (added_in total) (one ∷ later))
