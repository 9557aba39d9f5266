use Rattle.std.proofs.Common.{◌*◌, ◌≤◌, map}
use Rattle.rota_core.specs.InstanceTables.{problem_of}
use Rattle.rota_core.specs.RosterTables.{set_of}
use Rattle.rota_core.specs.Sizes.{DAYS}
use Rattle.rota_certificate.specs.CountedCharges.{numbers_in}
use Rattle.rota_certificate.specs.Nearness.{IsNear}
use Rattle.rota_certificate.proofs.CountedPlans.{CountsFrom}
use Rattle.rota_certificate.proofs.counted.charges_of_nurse.Given as goal

abbrev pub invariant-loop-number : goal.invariant-loop-number
invariant-loop-number l = record {
  counts : CountsFrom l.kind (map problem_of l.weeks) (map set_of l.rosters) l.nurse l.number l.sum l.past;
  near : IsNear (numbers_in l.weeks).shifts (DAYS * l.number) l.past;
  small : l.sum ≤ l.number * 1048560;
}
