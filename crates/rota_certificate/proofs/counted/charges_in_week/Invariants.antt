use Rattle.std.proofs.Common.{◌≡◌, ℕ, ◌+◌, ◌-◌, ◌*◌, ◌≤◌}
use Rattle.rota_core.specs.InstanceTables.{problem_of}
use Rattle.rota_core.specs.RosterTables.{set_of}
use Rattle.rota_core.specs.Sizes.{DAYS}
use Rattle.rota_certificate.specs.Nearness.{IsNear, most_days}
use Rattle.rota_certificate.proofs.CountedWeeks.{past_on, runs_on}
use Rattle.rota_certificate.proofs.counted.charges_in_week.Given as goal

abbrev pub invariant-loop-day : goal.invariant-loop-day
invariant-loop-day l =
    let problem = problem_of l.instance in
    record {
      now : l.now ≡ past_on problem (set_of l.roster) l.nurse l.past l.day;
      charges : l.charges ≡ runs_on l.kind problem (set_of l.roster) l.nurse l.past l.day;
      near : IsNear problem.shifts (most_days - DAYS + l.day) l.now;
      nears : (days : ℕ) → IsNear problem.shifts days l.past → IsNear problem.shifts (days + l.day) l.now;
      small : l.charges ≤ l.day * 131070;
    }
