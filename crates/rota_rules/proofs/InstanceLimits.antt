-- The numbers of an instance's week are within the limits of the files.
use Rattle.std.proofs.Common.{rules, ℕ, zero, suc, ◌≤◌, List, [], ◌∷◌, arith, slice_index_or}
use Rattle.std.specs.List.{AllByRecursion}
use Rattle.rota_core.specs.Defaults.{no_demand, no_past, no_span}
use Rattle.rota_core.specs.InstanceTables.{InstanceTables, IsInstance, problem_of}
use Rattle.rota_core.specs.Limits.{max_number}
use Rattle.rota_core.specs.ScenarioTables.{AreLimits, IsContract}
use Rattle.rota_core.specs.WeekTables.{IsDemand, IsPast}
use Rattle.rota_rules.specs.WithinLimits.{IsWithinLimits}

-- a property of each element and of the default is a property of the value at any index
pub AllByRecursion-or_default : {X : Type 0} (P : X → Type 0) (xs : List X) (i : ℕ) (default : X) →
    AllByRecursion P xs → P default → P (slice_index_or xs i default)
AllByRecursion-or_default P [] i default all holds = holds
AllByRecursion-or_default P (x ∷ xs) zero default all holds = all.0
AllByRecursion-or_default P (x ∷ xs) (suc i) default all holds = AllByRecursion-or_default P xs i default all.1 holds

module _ (t : InstanceTables) (limits : IsInstance t) where
  contract-small : (n : ℕ) → IsContract ((problem_of t).contract n)
  contract-small n = search (rules, AllByRecursion-or_default, limits.scenario.contracts.1)

  past-small : (n : ℕ) → IsPast t.history.numbers.shifts ((problem_of t).past n)
  past-small n =
      AllByRecursion-or_default (IsPast t.history.numbers.shifts) t.history.past n no_past limits.history.past.1 (search rules)

  pub instance-within_limits : IsWithinLimits (problem_of t)
  instance-within_limits = record {
    nurses = limits.scenario.nurses.0.1;
    shifts = limits.scenario.shifts.0.1;
    skills = limits.scenario.skills.0.1;
    optimal = λ d s k.
        (AllByRecursion-or_default IsDemand t.week.demands _ no_demand limits.week.demands.1 (omega arith, omega arith)).1;
    limits = λ s.
        (AllByRecursion-or_default AreLimits t.scenario.limits s no_span limits.scenario.limits.1 (omega arith, omega arith)).0;
    work_limits = λ n. (contract-small n).1.0;
    off_limits = λ n. (contract-small n).2.0;
    totals = λ n. (contract-small n).0.0;
    assignments = λ n. (past-small n).totals.0;
    weekends = λ n. (past-small n).totals.1;
    requests = λ n d s.
        AllByRecursion-or_default (λ count. count ≤ max_number) t.week.requests _ 0 limits.week.requests.1 (omega arith);
  }

pub ruleset within_limits = (instance-within_limits)
