use Rattle.std.proofs.Common.{◌≡◌, ◌*◌, length}
use Rattle.std.specs.List.{AllByRecursion}
use Rattle.rota_core.specs.WeekTables.{IsDemand}
use Rattle.call_tests.proofs.own_week.week_of_rows.Given as goal

-- each index has its demand, within the limits
abbrev pub invariant-loop-row : goal.invariant-loop-row
invariant-loop-row l = (length l.demands.items ≡ 7 * l.shifts * l.skills) × AllByRecursion IsDemand l.demands.items
