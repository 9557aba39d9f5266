-- The pasts that days lead to are near those before them.
use Rattle.std.proofs.Common.{ℕ, ◌≤◌, arith}
use Rattle.rota_core.specs.WeekTables.{IsPast}
use Rattle.rota_core.specs.declared.values.Past.{Past}
use Rattle.rota_certificate.specs.Nearness.{IsNear}

-- a past that some days can lead to is near after more days, too
pub near-more : (shifts day other : ℕ) (past : Past) → day ≤ other → IsNear shifts day past → IsNear shifts other past
near-more shifts day other past more near = record {
  assignments = omega (arith, near.assignments);
  weekends = omega (arith, near.weekends);
  last = near.last;
  shift_run = omega (arith, near.shift_run);
  work_run = omega (arith, near.work_run);
  off_run = omega (arith, near.off_run);
}

-- a past within its limits is near before the first day
pub near-past : (shifts : ℕ) (past : Past) → IsPast shifts past → IsNear shifts 0 past
near-past shifts past within = record {
  assignments = omega (arith, within.totals.0);
  weekends = omega (arith, within.totals.1);
  last = within.last;
  shift_run = omega (arith, within.runs.0);
  work_run = omega (arith, within.runs.1);
  off_run = omega (arith, within.runs.2);
}
